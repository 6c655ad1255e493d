use Rattle.std.proofs.Common.{◌∙◌, ap}
use Rattle.logos_json.proofs.LineLemmas.{put_text}
use Rattle.logos_messages.proofs.warnings.warning_lines.Goals as goal

pub returns : goal.returns
returns c =
    let put = c.in_ok-push_all.ensures in
    (put.0, put.1, put_text put.0 _ _ c.in_ok-bytes.bytes.items (ap (λ v. v.before) c.new-lines.ensures ∙ c.new.ensures.items) (ap (λ v. v.tokens) c.new-lines.ensures) put.2 c.in_ok-bytes.ensures.bytes)

use Rattle.std.proofs.Common.{◌∙◌, ap}
use Rattle.logos_records.proofs.MatchLemmas.{matches_written}
use Rattle.logos_records.proofs.matches.match_records.Goals as goal

pub returns : goal.returns
returns c = λ of_leaves starts bytes.
    matches_written c.args.graph.now.leaves c.args.input.now c.args.from _ _ c.in_ok-bytes.bytes.items (ap (λ v. v.before) c.new-lines.ensures ∙ c.new.ensures.items) (ap (λ v. v.tokens) c.new-lines.ensures)
    (c.in_ok-push_match_records.ensures of_leaves starts bytes) c.in_ok-bytes.ensures.bytes

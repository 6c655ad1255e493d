use Rattle.std.proofs.Common.{◌∙◌, ap}
use Rattle.logos_messages.proofs.MessageLemmas.{refused_written}
use Rattle.logos_messages.proofs.messages.refused_lines.Goals as goal

pub returns : goal.returns
returns c =
    refused_written c.args.source.now c.args.refused.now _ _ c.in_ok-bytes.bytes.items (ap (λ v. v.before) c.new-lines.ensures ∙ c.new.ensures.items) (ap (λ v. v.tokens) c.new-lines.ensures) c.in_ok-push_parts.ensures
    c.in_ok-bytes.ensures.bytes

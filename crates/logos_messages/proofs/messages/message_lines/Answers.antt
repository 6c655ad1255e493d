use Rattle.std.proofs.Common.{◌∙◌, [], ap, subst}
use Rattle.std.proofs.lemmas.List.{append-nil}
use Rattle.logos_messages.specs.Messages.{PutsAfter}
use Rattle.logos_messages.proofs.MessageLemmas.{messages_written}
use Rattle.logos_messages.proofs.messages.message_lines.Goals as goal

pub returns : goal.returns
returns c =
    let source = c.args.part.source.now in
    let begin = c.args.part.offset in
    let faults = c.args.errors.now in
    let pushed = rw c.list.ensures at c.in_ok-push_all.ensures in
    let all = subst (λ list. PutsAfter source begin list [] faults c.new-lines.result c.push_all.new.lines) (append-nil faults) pushed in
    messages_written source begin faults _ _ c.in_ok-bytes.bytes.items (ap (λ v. v.before) c.new-lines.ensures ∙ c.new.ensures.items) (ap (λ v. v.tokens) c.new-lines.ensures) all c.in_ok-bytes.ensures.bytes

use Rattle.std.proofs.Common.{◌+◌, sym, subst, take}
use Rattle.std.proofs.lemmas.List.{take_rest}
use Rattle.logos_report.proofs.PartLemmas.{around}
use Rattle.logos_report.specs.Parts.{all_faults}
use Rattle.logos_messages.specs.Messages.{PutsAfter}
use Rattle.logos_messages.proofs.MessageLemmas.{part_then}
use Rattle.logos_messages.proofs.messages.push_part.Goals as goal

pub returns : goal.returns
returns c =
    let parts = c.args.refused.now in
    let source = c.args.source.now in
    let one = c.index-refused-number.result in
    let front = all_faults (take c.args.number parts) in
    let pushed = rw (c.list.ensures, take_rest parts (c.args.number + 1)) at c.in_ok-push_all.ensures in
    let all = subst (λ list. PutsAfter source one.offset list front one.errors c.args.lines.now c.push_all.new.lines) (sym (around parts c.args.number one c.requires c.index-refused-number.is)) pushed in
    part_then source parts c.args.number one c.requires c.index-refused-number.is all

use Rattle.std.proofs.Common.{subst}
use Rattle.logos_messages.specs.Warnings.{PutsWarning}
use Rattle.logos_messages.proofs.WarningLemmas.{next_warned, none_warned}
use Rattle.logos_messages.proofs.warnings.push_all.Goals as goal

pub loop-warning-preserved : goal.loop-warning-preserved
loop-warning-preserved c = λ new rest.
    let one = subst (λ x. PutsWarning c.args.part.source.now c.args.part.offset x c.loop-warning.lines c.push_line.new.lines) c.warning-item.is c.in_ok-push_line.ensures in
    c.loop-warning.invariant new (next_warned c.args.part.source.now c.args.part.offset c.args.warnings.now c.loop-warning.warning-index c.warning-item.result c.loop-warning-test.true one rest)

pub returns : goal.returns
returns c = c.loop-warning.invariant _ (none_warned c.args.part.source.now c.args.part.offset c.args.warnings.now c.loop-warning.warning-index _ c.loop-warning-test.false)

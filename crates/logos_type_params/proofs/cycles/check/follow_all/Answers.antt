use Rattle.std.proofs.Common.{refl}
use Rattle.logos_type_params.proofs.cycles.SlotLemmas.{follow_step, follow_none}
use Rattle.logos_type_params.proofs.cycles.check.follow_all.Goals as goal

pub loop-to-preserved : goal.loop-to-preserved
loop-to-preserved c = λ rest. c.loop-to.invariant (follow_step c.args.memberships.now c.args.membership c.args.targets.now c.loop-to.to-index c.loop-to-test.true (c.if-not-follows.ensures refl) rest)

pub returns : goal.returns
returns c = λ t. c.loop-to.invariant (follow_none c.args.memberships.now c.args.membership c.args.targets.now c.loop-to.to-index c.loop-to-test.false)

use Rattle.logos_layout.specs.Inner.FollowsInner.{begun, next}
use Rattle.logos_layout.proofs.inner_attributes.read_inner.Goals as goal

pub loop-to-init : goal.loop-to-init
loop-to-init c = begun

pub loop-to-preserved : goal.loop-to-preserved
loop-to-preserved c = next c.loop-to.invariant c.in-Some.ensures.0

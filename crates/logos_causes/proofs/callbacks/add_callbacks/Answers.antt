use Rattle.logos_warnings.proofs.ShownLemmas.{adds_none, adds_then}
use Rattle.logos_causes.specs.Warned.{IsOfCallback}
use Rattle.logos_causes.proofs.callbacks.add_callbacks.Goals as goal

pub loop-leaf-init : goal.loop-leaf-init
loop-leaf-init c = adds_none IsOfCallback _

pub loop-leaf-preserved : goal.loop-leaf-preserved
loop-leaf-preserved c = adds_then IsOfCallback _ _ _ c.loop-leaf.invariant c.in_ok-add_callback.ensures

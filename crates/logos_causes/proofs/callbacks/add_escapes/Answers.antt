use Rattle.logos_warnings.proofs.ShownLemmas.{adds_none, adds_then}
use Rattle.logos_causes.specs.Warned.{IsOfCallback}
use Rattle.logos_causes.proofs.callbacks.add_escapes.Goals as goal

pub loop-tree-init : goal.loop-tree-init
loop-tree-init c = adds_none IsOfCallback _

pub loop-tree-preserved : goal.loop-tree-preserved
loop-tree-preserved c = adds_then IsOfCallback _ _ _ c.loop-tree.invariant c.in_ok-add_found.ensures

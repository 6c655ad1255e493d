use Rattle.logos_warnings.proofs.ShownLemmas.{adds_none, adds_then}
use Rattle.logos_causes.specs.Warned.{IsHidden}
use Rattle.logos_causes.proofs.shadowed_leaves.add_hidden.Goals as goal

pub loop-number-init : goal.loop-number-init
loop-number-init c = adds_none (IsHidden c.args.graph.now) _

pub loop-number-preserved : goal.loop-number-preserved
loop-number-preserved c = adds_then (IsHidden c.args.graph.now) _ _ _ c.loop-number.invariant c.in_ok-count.ensures

use Rattle.logos_warnings.specs.Shown.{AddsEach}
use Rattle.logos_causes.specs.Warned.{IsHidden}
use Rattle.logos_causes.proofs.shadowed_leaves.add_hidden.Given as goal

abbrev pub invariant-loop-number : goal.invariant-loop-number
invariant-loop-number l = AddsEach (IsHidden l.graph) l.initial.warnings.items l.warnings.items

use Rattle.logos_warnings.specs.Shown.{AddsEach}
use Rattle.logos_causes.specs.Warned.{IsOfCallback}
use Rattle.logos_causes.proofs.callbacks.add_callbacks.Given as goal

abbrev pub invariant-loop-leaf : goal.invariant-loop-leaf
invariant-loop-leaf l = AddsEach IsOfCallback l.initial.warnings.items l.warnings.items

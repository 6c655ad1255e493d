use Rattle.logos_token.specs.Tokens.{count_of}
use Rattle.logos_token.specs.Views.{tokens_of}
use Rattle.logos_warnings.specs.Shown.{AddsEach}
use Rattle.logos_causes.specs.Warned.{IsOfCallback}
use Rattle.logos_causes.proofs.callbacks.add_escapes.Given as goal

abbrev pub invariant-loop-tree : goal.invariant-loop-tree
invariant-loop-tree l = AddsEach IsOfCallback l.initial.warnings.items l.warnings.items

abbrev pub decreases-loop-tree : goal.decreases-loop-tree
decreases-loop-tree l = count_of (tokens_of l.rest)

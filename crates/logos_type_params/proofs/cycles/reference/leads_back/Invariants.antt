use Rattle.logos_type_params.specs.cycles.inside.Memberships.{graph}
use Rattle.logos_type_params.specs.cycles.inside.Traversals.{left_in}
use Rattle.logos_type_params.proofs.cycles.WalkLemmas.{Walking}
use Rattle.logos_type_params.proofs.cycles.reference.leads_back.Given as goal

abbrev pub invariant-loop-from : goal.invariant-loop-from
invariant-loop-from l = Walking (graph l.lists) l.node l.traversal.found.items l.traversal.waiting.items

abbrev pub decreases-loop-from : goal.decreases-loop-from
decreases-loop-from l = left_in l.traversal.found.items l.traversal.waiting.items

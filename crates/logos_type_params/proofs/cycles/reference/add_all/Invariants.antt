use Rattle.std.proofs.Common.{List, ℕ, Bool, drop}
use Rattle.logos_type_params.specs.cycles.inside.Traversals.{Reaches}
use Rattle.logos_type_params.proofs.cycles.reference.add_all.Given as goal

-- a result for the rest completes to a result for the whole
abbrev pub invariant-loop-to : goal.invariant-loop-to
invariant-loop-to l = (found : List Bool) (waiting : List ℕ) →
    Reaches (drop l.to-index l.targets) l.traversal.found.items l.traversal.waiting.items found waiting →
    Reaches l.targets l.fn.traversal.found.items l.fn.traversal.waiting.items found waiting

use Rattle.std.proofs.Common.{List, ℕ, map, drop}
use Rattle.logos_type.specs.Parts.{trees, tree_of}
use Rattle.logos_type_params.specs.Substitution.{param_value}
use Rattle.logos_type_params.specs.SelfReference.{names, some_names}
use Rattle.logos_type_params.specs.inside.Chains.{Reaches}
use Rattle.logos_type_params.proofs.self_reference.+reach.Given as goal

-- a result for the rest completes to a result for the whole
abbrev pub invariant-loop-part : goal.invariant-loop-part
invariant-loop-part l = (new : List ℕ) →
    Reaches (map param_value l.types.entries.items) (some_names (trees (map tree_of (drop l.part-index l.part-items)))) l.reached.items new →
    Reaches (map param_value l.types.entries.items) (names (tree_of l.part)) l.fn.reached.items new

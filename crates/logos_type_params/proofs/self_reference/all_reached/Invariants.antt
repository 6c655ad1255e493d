use Rattle.std.proofs.Common.{List, ℕ, ◌++◌, map, drop}
use Rattle.logos_type_params.specs.Substitution.{param_value}
use Rattle.logos_type_params.specs.inside.Chains.{AreReached}
use Rattle.logos_type_params.proofs.self_reference.all_reached.Given as goal

-- a result for the rest completes to a result for the whole
abbrev pub invariant-loop-at : goal.invariant-loop-at
invariant-loop-at l = (left : List (List ℕ)) →
    AreReached (map param_value l.types.entries.items) (map param_value (drop l.at l.types.entries.items)) left →
    AreReached (map param_value l.types.entries.items) (map param_value l.types.entries.items) (map (λ list. list.items) l.lists.items ++ left)

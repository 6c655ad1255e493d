-- The search for the states that have a mark or lead to one.
use Rattle.std.specs.Prelude.{◌≡◌, ◌<◌, ◌==◌, ◌↔◌, ◌⊎◌, ℕ, List, Option, None, Some, slice_index, if◌then◌else◌}
use Rattle.logos_reduce.specs.Edges.{IsMarked}
use Rattle.logos_reduce.specs.Order.{IsMet}
use Rattle.logos_reduce.specs.Prune.{IsOfUse}
use Rattle.logos_reduce.specs.Table.{size, to, mark, type_of}
use Rattle.logos_reduce.specs.declared.table.Table.{Table}

-- The state has a mark, or leads to one on the end.
abbrev pub IsSeed : Table → ℕ → Type 0
IsSeed table s = IsMarked (type_of (mark table s))
    ⊎ ((t : ℕ) × (to table s 256 ≡ Some t) × IsMarked (type_of (mark table t)))

-- The order has exactly the states that have a mark or lead to one.
abbrev pub AreUseful : Table → List ℕ → Type 0
AreUseful table numbers = (s : ℕ) → s < size table → IsMet numbers s ↔ IsOfUse table s

-- The target, if it is in the order.
abbrev pub met_target : List ℕ → Option ℕ → Option ℕ
met_target numbers None = None
met_target numbers (Some t) = if slice_index numbers t == 0 then None else Some t

use Rattle.std.proofs.Common.{◌-◌, ◌≡◌, ◌⊎◌, ℕ, ◌<◌, Some, vec_len}
use Rattle.logos_reduce.specs.Table.{mark, to}
use Rattle.logos_reduce.specs.inside.Settle.{IsSet}
use Rattle.logos_reduce.specs.Settle.{IsNeeded}
use Rattle.logos_reduce.proofs.settle.note_targets.Given as goal

abbrev pub invariant-loop-k : goal.invariant-loop-k
invariant-loop-k l =
    (vec_len l.needed ≡ vec_len l.initial.needed)
    × ((t : ℕ) → IsSet l.initial.needed.items t → IsSet l.needed.items t)
    × ((t : ℕ) → IsSet l.needed.items t → IsSet l.initial.needed.items t ⊎ IsNeeded l.table l.s l.early t)
    × ((j t : ℕ) → j < l.k → to l.table l.s j ≡ Some t → IsSet l.needed.items t ⊎ ((mark l.table t).accept ≡ l.early))

abbrev pub decreases-loop-k : goal.decreases-loop-k
decreases-loop-k l = 257 - l.k

use Rattle.std.proofs.Common.{◌-◌, ◌≡◌, ℕ, ◌+◌, ◌<◌, ◌⊎◌, vec_len, Some, true}
use Rattle.logos_reduce.specs.Lists.{has_in, AreRising}
use Rattle.logos_reduce.specs.Rows.{target_by}
use Rattle.logos_reduce.proofs.lists.file_row.Given as goal

abbrev pub invariant-loop-k : goal.invariant-loop-k
invariant-loop-k l =
    (vec_len l.lists ≡ vec_len l.initial.lists)
    × ((t u : ℕ) → has_in l.initial.lists.items t u ≡ true → has_in l.lists.items t u ≡ true)
    × ((k t : ℕ) → k < l.k → target_by l.row k ≡ Some t → has_in l.lists.items t l.s ≡ true)
    × ((t u : ℕ) → has_in l.lists.items t u ≡ true → (has_in l.initial.lists.items t u ≡ true) ⊎ ((u ≡ l.s) × ((k : ℕ) × (k < l.width) × (target_by l.row k ≡ Some t))))
    × (AreRising (l.s + 1) l.initial.lists.items → AreRising (l.s + 1) l.lists.items)

abbrev pub decreases-loop-k : goal.decreases-loop-k
decreases-loop-k l = 257 - l.k

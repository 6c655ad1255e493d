use Rattle.std.proofs.Common.{◌-◌, ◌≡◌, ℕ, ◌<◌, ◌≤◌, length, slice_index}
use Rattle.logos_reduce.specs.inside.Prune.{met_target}
use Rattle.logos_reduce.specs.Rows.{target_by}
use Rattle.logos_reduce.proofs.prune.prune_row.Given as goal

abbrev pub invariant-loop-k : goal.invariant-loop-k
invariant-loop-k l =
    (l.k ≤ 257)
    × (length l.row ≡ 257)
    × ((j : ℕ) → j < l.k → target_by l.row j ≡ met_target l.order.numbers.items (target_by l.initial.row j))
    × ((j : ℕ) → l.k ≤ j → slice_index l.row j ≡ slice_index l.initial.row j)

abbrev pub decreases-loop-k : goal.decreases-loop-k
decreases-loop-k l = 257 - l.k

use Rattle.std.proofs.Common.{◌-◌, ◌≡◌, ℕ, ◌<◌, length, slice_index, option_map, option_and_then}
use Rattle.logos_reduce.specs.Rows.{target_by, target_of}
use Rattle.logos_reduce.proofs.number.numbered_row.Given as goal

abbrev pub invariant-loop-k : goal.invariant-loop-k
invariant-loop-k l =
    (length l.numbered ≡ 257)
    × ((j : ℕ) → j < l.k → target_by l.numbered j ≡ option_and_then (λ b. target_of (slice_index l.numbers.items b)) (option_map (slice_index l.blocks.items) (target_by l.row j)))

abbrev pub decreases-loop-k : goal.decreases-loop-k
decreases-loop-k l = 257 - l.k

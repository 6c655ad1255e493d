use Rattle.std.proofs.Common.{◌-◌, ◌≡◌, ℕ, ◌<◌, option_map, slice_index}
use Rattle.logos_reduce.specs.Rows.{target_by}
use Rattle.logos_reduce.proofs.merge.first_difference.Given as goal

abbrev pub invariant-loop-k : goal.invariant-loop-k
invariant-loop-k l = (j : ℕ) → j < l.k → option_map (slice_index l.blocks.items) (target_by l.row j) ≡ option_map (slice_index l.blocks.items) (target_by l.other j)

abbrev pub decreases-loop-k : goal.decreases-loop-k
decreases-loop-k l = 257 - l.k

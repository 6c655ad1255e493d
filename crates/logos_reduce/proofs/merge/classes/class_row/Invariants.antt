use Rattle.std.proofs.Common.{◌-◌, ◌≡◌, ℕ, ◌<◌, length, slice_index, option_map}
use Rattle.logos_reduce.specs.Rows.{target_by}
use Rattle.logos_reduce.proofs.merge.classes.class_row.Given as goal

abbrev pub invariant-loop-k : goal.invariant-loop-k
invariant-loop-k l = (length l.made ≡ 257) × ((j : ℕ) → j < l.k → target_by l.made j ≡ option_map (slice_index l.of.items) (target_by l.row j))

abbrev pub decreases-loop-k : goal.decreases-loop-k
decreases-loop-k l = 257 - l.k

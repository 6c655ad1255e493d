use Rattle.std.proofs.Common.{◌≡◌, ℕ, ◌<◌, slice_index}
use Rattle.logos_reduce.specs.Merge.{target_block}
use Rattle.logos_reduce.proofs.merge.find_difference.Given as goal

abbrev pub invariant-loop-s : goal.invariant-loop-s
invariant-loop-s l =
    (t k : ℕ) → t < l.s → target_block l.table (slice_index l.blocks.items) t k ≡ target_block l.table (slice_index l.blocks.items) (slice_index l.leaders.items (slice_index l.blocks.items t)) k

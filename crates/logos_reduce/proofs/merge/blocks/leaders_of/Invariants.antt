use Rattle.std.proofs.Common.{◌≡◌, ℕ, ◌<◌, vec_len, slice_index}
use Rattle.logos_reduce.specs.Merge.{AreLeaders}
use Rattle.logos_reduce.proofs.merge.blocks.leaders_of.Given as goal

abbrev pub invariant-loop-s : goal.invariant-loop-s
invariant-loop-s l = (vec_len l.leaders ≡ l.count) × AreLeaders l.s (slice_index l.of.items) (slice_index l.leaders.items) × (0 < vec_len l.of → (j : ℕ) → slice_index l.leaders.items j < vec_len l.of)

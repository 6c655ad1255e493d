use Rattle.std.proofs.Common.{◌≡◌, ℕ, ◌<◌, vec_len, slice_index}
use Rattle.logos_reduce.specs.Merge.{target_block}
use Rattle.logos_reduce.specs.inside.Merge.{IsLanding}
use Rattle.logos_reduce.proofs.merge.parts.Given as goal

abbrev pub invariant-loop-t : goal.invariant-loop-t
invariant-loop-t l =
    (vec_len l.parts ≡ l.t)
    × ((t : ℕ) → t < l.t →
    IsLanding l.cut.home l.cut.to l.cut.fresh (slice_index l.blocks.items t) (target_block l.table (slice_index l.blocks.items) t l.cut.symbol) (slice_index l.parts.items t))

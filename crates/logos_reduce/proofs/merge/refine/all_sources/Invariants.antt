use Rattle.std.proofs.Common.{◌≡◌, ℕ, ◌<◌, vec_len, slice_index, true}
use Rattle.logos_reduce.specs.Lists.{has, has_in}
use Rattle.logos_reduce.proofs.merge.refine.all_sources.Given as goal

abbrev pub invariant-loop-t : goal.invariant-loop-t
invariant-loop-t l = (j s : ℕ) → j < l.t-index → slice_index l.t-items j < vec_len l.parts.filing.blocks → slice_index l.parts.filing.blocks.items (slice_index l.t-items j) ≡ l.b → has_in l.from.items (slice_index l.t-items j) s ≡ true → has l.sources.items s ≡ true

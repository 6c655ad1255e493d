use Rattle.std.proofs.Common.{◌≡◌, ℕ, ◌<◌, vec_len, slice_index}
use Rattle.logos_reduce.proofs.merge.twins.homes_of.Given as goal

abbrev pub invariant-loop-s : goal.invariant-loop-s
invariant-loop-s l = (vec_len l.homes ≡ l.s-index) × (vec_len l.hints.todo ≡ vec_len l.fn.hints.todo) × (vec_len l.hints.sizes ≡ vec_len l.fn.hints.sizes) × ((i : ℕ) → i < l.s-index → slice_index l.homes.items i ≡ slice_index l.blocks.items (slice_index l.hits.items i))

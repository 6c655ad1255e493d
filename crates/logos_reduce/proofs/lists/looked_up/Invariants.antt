use Rattle.std.proofs.Common.{◌≡◌, ℕ, ◌<◌, vec_len, slice_index}
use Rattle.logos_reduce.proofs.lists.looked_up.Given as goal

abbrev pub invariant-loop-number : goal.invariant-loop-number
invariant-loop-number l =
    (vec_len l.found ≡ l.number-index) × ((i : ℕ) → i < l.number-index → slice_index l.found.items i ≡ slice_index l.table.items (slice_index l.numbers.items i))

use Rattle.std.proofs.Common.{◌≡◌, ℕ, ◌<◌, vec_len, slice_index}
use Rattle.logos_reduce.specs.Table.{mark, mark_in}
use Rattle.logos_reduce.proofs.number.numbered_marks.Given as goal

abbrev pub invariant-loop-block : goal.invariant-loop-block
invariant-loop-block l =
    (vec_len l.marks ≡ l.block-index)
    × ((i : ℕ) → i < l.block-index → mark_in l.marks.items i ≡ mark l.table (slice_index l.merged.leaders.items (slice_index l.order.states.items i)))

use Rattle.std.proofs.Common.{◌≡◌, ℕ, ◌<◌, length, slice_index, option_and_then}
use Rattle.logos_reduce.specs.Merge.{target_block}
use Rattle.logos_reduce.specs.Rows.{target_in, target_of}
use Rattle.logos_reduce.specs.RowsView.{rows_of}
use Rattle.logos_reduce.proofs.number.numbered_rows.Given as goal

abbrev pub invariant-loop-block : goal.invariant-loop-block
invariant-loop-block l =
    (length (rows_of l.rows) ≡ l.block-index)
    × ((i k : ℕ) → i < l.block-index → target_in (rows_of l.rows) i k
    ≡ option_and_then (λ b. target_of (slice_index l.order.numbers.items b)) (target_block l.table (slice_index l.merged.blocks.of.items) (slice_index l.merged.leaders.items (slice_index l.order.states.items i)) k))

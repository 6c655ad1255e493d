use Rattle.std.proofs.Common.{◌≡◌, ℕ, ◌<◌, length, slice_index}
use Rattle.logos_reduce.specs.Merge.{target_block}
use Rattle.logos_reduce.specs.Rows.{target_in}
use Rattle.logos_reduce.specs.RowsView.{rows_of}
use Rattle.logos_reduce.proofs.merge.classes.class_rows.Given as goal

abbrev pub invariant-loop-leader : goal.invariant-loop-leader
invariant-loop-leader l =
    (length (rows_of l.rows) ≡ l.leader-index)
    × ((c k : ℕ) → c < l.leader-index → target_in (rows_of l.rows) c k ≡ target_block l.table (slice_index l.of.items) (slice_index l.leaders.items c) k)

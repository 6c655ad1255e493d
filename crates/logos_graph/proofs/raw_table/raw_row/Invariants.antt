use Rattle.std.proofs.Common.{◌≡◌, ℕ, ◌<◌, Some, length, slice_index}
use Rattle.logos_reduce.specs.Rows.{target_by}
use Rattle.logos_graph.proofs.raw_table.raw_row.Given as goal

abbrev pub invariant-loop-k : goal.invariant-loop-k
invariant-loop-k l =
    (length l.made ≡ 257)
    × ((j : ℕ) → j < l.k → target_by l.made j ≡ Some (slice_index l.row j))
    × (target_by l.made 256 ≡ Some l.end)

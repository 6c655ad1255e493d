use Rattle.std.proofs.Common.{◌≡◌, ℕ, ◌<◌, ◌≤◌, length, slice_index}
use Rattle.logos_reduce.specs.Rows.{HasOnly}
use Rattle.logos_reduce.proofs.rows.fill_run.Given as goal

abbrev pub invariant-loop-k : goal.invariant-loop-k
invariant-loop-k l =
    (length l.row ≡ 257)
    × ((j : ℕ) → j < l.from → slice_index l.row j ≡ slice_index l.initial.row j)
    × ((j : ℕ) → l.to ≤ j → slice_index l.row j ≡ slice_index l.initial.row j)
    × HasOnly l.row l.from l.k l.entry

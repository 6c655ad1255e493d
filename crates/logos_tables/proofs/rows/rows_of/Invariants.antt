use Rattle.std.proofs.Common.{◌≡◌, ℕ, ◌<◌, [], length, slice_index_or}
use Rattle.logos_code.specs.CodeView.{state_at}
use Rattle.logos_tables.specs.Steps.{HasSteps}
use Rattle.logos_tables.specs.RowsView.{rows_of}
use Rattle.logos_tables.proofs.rows.rows_of.Given as goal

-- the rows of the states so far
abbrev pub invariant-loop-state : goal.invariant-loop-state
invariant-loop-state l = record {
  count : length (rows_of l.rows) ≡ l.state;
  are : (s : ℕ) → s < l.state → HasSteps l.code (state_at l.code s) (slice_index_or (rows_of l.rows) s []);
}

use Rattle.std.proofs.Common.{◌≡◌, ℕ, ◌+◌, ◌*◌, ◌<◌, length, slice_index}
use Rattle.logos_code.specs.CodeView.{code_of, state_at}
use Rattle.logos_code.specs.Rows.{IsEntry}
use Rattle.logos_code.proofs.code.rows.rows_of.Given as goal

-- the states so far have their rows
abbrev pub invariant-loop-state : goal.invariant-loop-state
invariant-loop-state l = record {
  count : length l.rows.items ≡ 272 * l.state-index;
  each : (k b : ℕ) → k < l.state-index → b < 256 → IsEntry (code_of l.parts) (state_at (code_of l.parts) k) b (slice_index l.rows.items (272 * k + b));
}

use Rattle.std.proofs.Common.{ℕ, ◌-◌, ◌<◌, ◌≤◌, slice_index}
use Rattle.logos_code.specs.CodeView.{code_of, state_of}
use Rattle.logos_code.specs.Rows.{IsEntry}
use Rattle.logos_code.proofs.code.rows.row_of.Given as goal

-- the bytes so far have their entries
abbrev pub invariant-loop-b : goal.invariant-loop-b
invariant-loop-b l = (l.b ≤ 256) × ((k : ℕ) → k < l.b → IsEntry (code_of l.parts) (state_of l.parts.jump_tables.items l.state) k (slice_index l.row k))

abbrev pub decreases-loop-b : goal.decreases-loop-b
decreases-loop-b l = 256 - l.b

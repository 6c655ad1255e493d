use Rattle.std.proofs.Common.{◌≡◌, ℕ, ◌+◌, ◌*◌, ◌<◌, length, slice_index}
use Rattle.logos_code.specs.Rows.{IsFirstEntry}
use Rattle.logos_code.proofs.code.rows.first_row.Given as goal

-- the bytes so far have their entries
abbrev pub invariant-loop-b : goal.invariant-loop-b
invariant-loop-b l = (length l.first ≡ 256) × ((k : ℕ) → k < l.b → IsFirstEntry (slice_index l.rows (272 * l.root + k)) (slice_index l.first k))

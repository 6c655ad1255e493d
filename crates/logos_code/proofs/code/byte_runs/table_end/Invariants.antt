use Rattle.std.proofs.Common.{◌≡◌, ℕ, ◌<◌, ◌≤◌, slice_index}
use Rattle.logos_code.proofs.code.byte_runs.table_end.Given as goal

-- the bytes so far have the same entry
abbrev pub invariant-loop-b : goal.invariant-loop-b
invariant-loop-b l = (l.byte < l.b) × (l.b ≤ l.end) × ((k : ℕ) → l.byte ≤ k → k < l.b → slice_index l.table k ≡ l.entry)

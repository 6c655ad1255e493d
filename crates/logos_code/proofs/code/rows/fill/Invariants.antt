use Rattle.std.proofs.Common.{◌≡◌, ℕ, ◌<◌, ◌≤◌, slice_index}
use Rattle.logos_code.proofs.code.rows.fill.Given as goal

-- the bytes so far have the entry, and those before the run have theirs
abbrev pub invariant-loop-b : goal.invariant-loop-b
invariant-loop-b l = ((k : ℕ) → l.byte ≤ k → k < l.b → slice_index l.row k ≡ l.entry) × ((k : ℕ) → k < l.byte → slice_index l.row k ≡ slice_index l.initial.row k)

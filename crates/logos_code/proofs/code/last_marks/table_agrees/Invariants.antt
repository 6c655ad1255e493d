use Rattle.std.proofs.Common.{ℕ, ◌<◌, IfSome, slice_index}
use Rattle.logos_code.specs.CodeView.{code_of, entry_of}
use Rattle.logos_code.specs.inside.LastMarks.{FollowsAt}
use Rattle.logos_code.proofs.code.last_marks.table_agrees.Given as goal

-- the entries so far agree
abbrev pub invariant-loop-b : goal.invariant-loop-b
invariant-loop-b l = (k : ℕ) → k < l.b → IfSome (entry_of (slice_index l.table k)) (FollowsAt (code_of l.parts) l.marks l.from)

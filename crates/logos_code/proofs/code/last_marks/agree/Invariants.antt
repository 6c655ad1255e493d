use Rattle.std.proofs.Common.{ℕ, ◌<◌}
use Rattle.logos_code.specs.CodeView.{code_of}
use Rattle.logos_code.specs.inside.LastMarks.{StateAgrees}
use Rattle.logos_code.proofs.code.last_marks.agree.Given as goal

-- the states so far agree
abbrev pub invariant-loop-state : goal.invariant-loop-state
invariant-loop-state l = (s : ℕ) → s < l.state → StateAgrees (code_of l.parts) l.marks s

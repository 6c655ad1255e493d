use Rattle.std.proofs.Common.{ℕ, ◌<◌, map, get_or}
use Rattle.logos_code.specs.Code.{Condition}
use Rattle.logos_code.specs.CodeView.{code_of, branch_of}
use Rattle.logos_code.specs.inside.LastMarks.{FollowsAt}
use Rattle.logos_code.proofs.code.last_marks.branches_agree.Given as goal

-- the branches so far agree
abbrev pub invariant-loop-branch : goal.invariant-loop-branch
invariant-loop-branch l = (j : ℕ) (d : Condition × ℕ) → j < l.branch-index → FollowsAt (code_of l.parts) l.marks l.from (get_or (map branch_of l.branches) j d).1

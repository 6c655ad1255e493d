use Rattle.std.proofs.Common.{map, refl, arith}
use Rattle.std.proofs.lemmas.List.{length-map}
use Rattle.logos_code.specs.CodeView.{code_of, branch_of}
use Rattle.logos_code.specs.inside.LastMarks.{FollowsAt}
use Rattle.logos_code.proofs.AlikeLemmas.{mapped_at}
use Rattle.logos_code.proofs.LastMarkLemmas.{branches_follow, one_more}
use Rattle.logos_code.proofs.code.last_marks.branches_agree.Goals as goal

pub loop-branch-preserved : goal.loop-branch-preserved
loop-branch-preserved c =
    one_more (λ edge. FollowsAt (code_of c.args.parts.now) c.args.marks.now c.args.from edge.1) (map branch_of c.args.branches.now) c.loop-branch.branch-index (branch_of c.branch-item.result)
    (rw length-map c.loop-branch-test.true)
    (mapped_at branch_of c.args.branches.now c.loop-branch.branch-index c.branch-item.result c.loop-branch-test.true c.branch-item.is)
    (c.if-not-target_agrees.ensures refl) c.loop-branch.invariant

pub returns : goal.returns
returns c = λ t.
    branches_follow (code_of c.args.parts.now) c.args.marks.now c.args.from (map branch_of c.args.branches.now)
    (λ j d h. c.loop-branch.invariant j d (omega (arith, rw length-map at h, c.loop-branch-test.false)))

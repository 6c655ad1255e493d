use Rattle.std.proofs.Common.{◌≡◌, vec_len}
use Rattle.logos_reduce.specs.inside.Refinements.{IsSoundRefinement, IsFinerRefinement, steps_left}
use Rattle.logos_reduce.specs.Table.{size}
use Rattle.logos_reduce.proofs.merge.refine.look_at_all.Given as goal

abbrev pub invariant-loop-b : goal.invariant-loop-b
invariant-loop-b l =
    (vec_len l.split.filing.blocks ≡ size l.table)
    × IsSoundRefinement l.table l.split
    × IsFinerRefinement l.table l.split l.initial.split

abbrev pub decreases-loop-b : goal.decreases-loop-b
decreases-loop-b l = steps_left l.split

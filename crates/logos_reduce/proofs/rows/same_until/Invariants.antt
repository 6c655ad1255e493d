use Rattle.std.proofs.Common.{◌≤◌, ◌-◌}
use Rattle.logos_reduce.specs.Rows.{AreSame}
use Rattle.logos_reduce.proofs.rows.same_until.Given as goal

abbrev pub invariant-loop-end : goal.invariant-loop-end
invariant-loop-end l = (l.start ≤ l.end) × (l.end ≤ 257) × AreSame l.row l.other l.start l.end

abbrev pub decreases-loop-end : goal.decreases-loop-end
decreases-loop-end l = 257 - l.end

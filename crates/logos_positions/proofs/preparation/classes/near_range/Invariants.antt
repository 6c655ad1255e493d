use Rattle.std.proofs.Common.{◌-◌, ◌≤◌, length}
use Rattle.logos_positions.proofs.preparation.classes.near_range.Given as goal

abbrev pub invariant-loop-i : goal.invariant-loop-i
invariant-loop-i l = l.i ≤ length l.ranges

abbrev pub decreases-loop-i : goal.decreases-loop-i
decreases-loop-i l = length l.ranges - l.i

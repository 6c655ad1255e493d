use Rattle.std.proofs.Common.{◌≤◌, ◌-◌, length}
use Rattle.logos_report.proofs.window.near_start.Given as goal

abbrev pub invariant-loop-from : goal.invariant-loop-from
invariant-loop-from l = l.from ≤ length l.bytes

abbrev pub decreases-loop-from : goal.decreases-loop-from
decreases-loop-from l = l.from - l.least

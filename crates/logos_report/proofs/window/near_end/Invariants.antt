use Rattle.std.proofs.Common.{◌-◌}
use Rattle.logos_report.proofs.window.near_end.Given as goal

abbrev pub decreases-loop-to : goal.decreases-loop-to
decreases-loop-to l = l.last - l.to

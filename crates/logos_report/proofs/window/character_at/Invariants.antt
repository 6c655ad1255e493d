use Rattle.std.proofs.Common.{◌-◌, length}
use Rattle.logos_report.proofs.window.character_at.Given as goal

abbrev pub decreases-loop-at : goal.decreases-loop-at
decreases-loop-at l = length l.text - l.at

use Rattle.std.proofs.Common.{length}
use Rattle.logos_warnings.proofs.missed_derives.from_offset.Given as goal

abbrev pub decreases-loop-left : goal.decreases-loop-left
decreases-loop-left l = length l.left

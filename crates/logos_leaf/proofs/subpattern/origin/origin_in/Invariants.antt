use Rattle.std.proofs.Common.{length}
use Rattle.logos_leaf.proofs.subpattern.origin.origin_in.Given as goal

abbrev pub decreases-loop-part : goal.decreases-loop-part
decreases-loop-part l = length l.rest

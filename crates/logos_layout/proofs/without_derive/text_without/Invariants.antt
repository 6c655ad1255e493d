use Rattle.std.proofs.Common.{length}
use Rattle.logos_layout.proofs.without_derive.text_without.Given as goal

abbrev pub decreases-loop-first : goal.decreases-loop-first
decreases-loop-first l = length l.left

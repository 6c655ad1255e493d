use Rattle.std.proofs.Common.{length}
use Rattle.logos_layout.proofs.plain_comments.plain_text.Given as goal

abbrev pub decreases-loop-first : goal.decreases-loop-first
decreases-loop-first l = length l.left

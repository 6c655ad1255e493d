use Rattle.logos_messages.proofs.LineLemmas.{lines_then}
use Rattle.logos_messages.proofs.marked_lines.push_each_line.Goals as goal

pub loop-number-preserved : goal.loop-number-preserved
loop-number-preserved c = lines_then c.loop-number.invariant c.push_line.ensures

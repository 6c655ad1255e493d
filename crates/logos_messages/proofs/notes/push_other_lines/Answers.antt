use Rattle.logos_messages.proofs.LineLemmas.{notes_then}
use Rattle.logos_messages.proofs.notes.push_other_lines.Goals as goal

pub loop-text-preserved : goal.loop-text-preserved
loop-text-preserved c = notes_then c.loop-text.invariant c.push_other_line.ensures

use Rattle.logos_messages.proofs.LineLemmas.{notes_then}
use Rattle.logos_messages.proofs.notes.push_starts.Goals as goal

pub loop-start-preserved : goal.loop-start-preserved
loop-start-preserved c = notes_then c.loop-start.invariant c.push_one.ensures

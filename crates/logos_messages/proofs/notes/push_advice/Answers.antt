use Rattle.logos_messages.proofs.LineLemmas.{notes_then}
use Rattle.logos_messages.proofs.notes.push_advice.Goals as goal

pub returns : goal.returns
returns c = notes_then c.push_known.ensures c.push_help.ensures

use Rattle.logos_messages.proofs.LineLemmas.{one_note}
use Rattle.logos_messages.proofs.notes.push_help.Goals as goal

pub returns-in-Some : goal.returns-in-Some
returns-in-Some c = one_note c.push_note.ensures

use Rattle.logos_messages.proofs.LineLemmas.{one_note}
use Rattle.logos_messages.proofs.notes.push_one.Goals as goal

pub returns : goal.returns
returns c = one_note c.push_note.ensures

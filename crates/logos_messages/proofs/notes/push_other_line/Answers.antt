use Rattle.logos_messages.proofs.LineLemmas.{one_note}
use Rattle.logos_messages.proofs.notes.push_other_line.Goals as goal

pub returns-then-not-is_empty : goal.returns-then-not-is_empty
returns-then-not-is_empty c = one_note c.push_note.ensures

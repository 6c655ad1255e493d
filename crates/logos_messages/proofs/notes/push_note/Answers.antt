use Rattle.logos_json.proofs.LineLemmas.{gains_then}
use Rattle.logos_messages.proofs.notes.push_note.Goals as goal

pub returns : goal.returns
returns c = gains_then c.begin_object.ensures (gains_then c.push_text.ensures (gains_then c.push_null.ensures (gains_then c.push_text-2.ensures (gains_then c.push_nothing_else.ensures c.end_object.ensures))))

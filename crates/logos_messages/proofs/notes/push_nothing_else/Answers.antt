use Rattle.logos_json.proofs.LineLemmas.{gains_then}
use Rattle.logos_messages.proofs.notes.push_nothing_else.Goals as goal

pub returns : goal.returns
returns c = gains_then c.push_empty_list.ensures (gains_then c.push_empty_list-2.ensures c.push_null.ensures)

use Rattle.logos_json.proofs.LineLemmas.{gains_then}
use Rattle.logos_messages.proofs.notes.push_empty_list.Goals as goal

pub returns : goal.returns
returns c = gains_then c.begin_list.ensures c.end_list.ensures

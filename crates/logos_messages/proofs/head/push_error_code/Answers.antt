use Rattle.logos_json.proofs.LineLemmas.{gains_then}
use Rattle.logos_messages.proofs.head.push_error_code.Goals as goal

pub returns : goal.returns
returns c = gains_then c.push_name.ensures (gains_then c.begin_object.ensures (gains_then (rw c.name.ensures at c.push_text.ensures) (gains_then c.push_null.ensures c.end_object.ensures)))

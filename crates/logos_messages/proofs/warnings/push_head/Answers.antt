use Rattle.logos_json.proofs.LineLemmas.{gains_then}
use Rattle.logos_messages.proofs.warnings.push_head.Goals as goal

pub returns : goal.returns
returns c = gains_then c.push_message.ensures (gains_then c.push_null.ensures c.push_text.ensures)

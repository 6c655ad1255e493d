use Rattle.logos_json.proofs.LineLemmas.{gains_then}
use Rattle.logos_messages.proofs.head.push_message.Goals as goal

pub returns : goal.returns
returns c = gains_then c.push_text.ensures c.push_text-2.ensures

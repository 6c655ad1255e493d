use Rattle.logos_json.proofs.LineLemmas.{gains_then}
use Rattle.logos_messages.proofs.spans.push_locations.Goals as goal

pub returns : goal.returns
returns c = gains_then c.push_number.ensures (gains_then c.push_number-2.ensures (gains_then c.push_number-3.ensures c.push_number-4.ensures))

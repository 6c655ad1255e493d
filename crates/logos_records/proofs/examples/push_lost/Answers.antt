use Rattle.logos_json.proofs.LineLemmas.{gains_then}
use Rattle.logos_records.proofs.examples.push_lost.Goals as goal

pub returns : goal.returns
returns c = gains_then c.push_bytes.ensures c.push_number.ensures

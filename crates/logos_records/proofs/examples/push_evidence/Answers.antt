use Rattle.logos_json.proofs.LineLemmas.{gains_then}
use Rattle.logos_records.proofs.examples.push_evidence.Goals as goal

pub returns : goal.returns
returns c = gains_then c.push_found.ensures c.push_loss.ensures

use Rattle.logos_json.proofs.LineLemmas.{gains_then}
use Rattle.logos_records.proofs.examples.push_no_loss.Goals as goal

pub returns : goal.returns
returns c = gains_then c.push_null.ensures c.push_null-2.ensures

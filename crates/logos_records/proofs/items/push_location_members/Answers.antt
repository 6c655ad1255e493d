use Rattle.logos_json.proofs.LineLemmas.{gains_then}
use Rattle.logos_records.proofs.items.push_location_members.Goals as goal

pub returns : goal.returns
returns c = gains_then c.push_number.ensures (gains_then c.push_number-2.ensures c.push_number-3.ensures)

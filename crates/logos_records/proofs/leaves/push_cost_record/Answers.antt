use Rattle.logos_json.proofs.LineLemmas.{gains_then}
use Rattle.logos_records.proofs.RecordLemmas.{object_put}
use Rattle.logos_records.proofs.leaves.push_cost_record.Goals as goal

pub returns : goal.returns
returns c = object_put c.begin_object.ensures (gains_then c.push_text.ensures (gains_then c.push_number.ensures (gains_then c.push_number-2.ensures c.push_number-3.ensures))) c.end_object.ensures c.end_line.ensures

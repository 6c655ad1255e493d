use Rattle.logos_records.proofs.RecordLemmas.{object_put}
use Rattle.logos_records.proofs.inputs.push_input_record.Goals as goal

pub returns : goal.returns
returns c = object_put c.begin_object.ensures c.push_bytes.ensures c.end_object.ensures c.end_line.ensures

use Rattle.logos_records.proofs.RecordLemmas.{object_put}
use Rattle.logos_records.proofs.comparing.push_same_record.Goals as goal

pub returns : goal.returns
returns c = object_put c.begin_object.ensures c.push_bool.ensures c.end_object.ensures c.end_line.ensures

use Rattle.logos_json.proofs.LineLemmas.{gains_then}
use Rattle.logos_records.proofs.RecordLemmas.{object_put}
use Rattle.logos_records.proofs.comparing.push_modes_record.Goals as goal

pub returns : goal.returns
returns c = object_put c.begin_object.ensures (gains_then c.push_bool.ensures (gains_then c.push_mode.ensures c.push_mode-2.ensures)) c.end_object.ensures c.end_line.ensures

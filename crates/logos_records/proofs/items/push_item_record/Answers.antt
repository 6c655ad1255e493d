use Rattle.logos_json.proofs.LineLemmas.{gains_then}
use Rattle.logos_records.proofs.RecordLemmas.{object_put}
use Rattle.logos_records.proofs.items.push_item_record.Goals as goal

pub returns : goal.returns
returns c = object_put c.begin_object.ensures (gains_then c.push_location_members.ensures c.push_kind_members.ensures) c.end_object.ensures c.end_line.ensures

use Rattle.logos_json.proofs.LineLemmas.{gains_then}
use Rattle.logos_records.proofs.RecordLemmas.{object_put}
use Rattle.logos_records.proofs.matches.push_match.Goals as goal

pub returns : goal.returns
returns c = object_put c.begin_object.ensures (gains_then c.push_leaf_members.ensures (gains_then c.push_number.ensures c.push_end.ensures)) c.end_object.ensures c.end_line.ensures

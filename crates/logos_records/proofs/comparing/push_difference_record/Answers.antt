use Rattle.logos_json.proofs.LineLemmas.{gains_then}
use Rattle.logos_records.proofs.RecordLemmas.{object_put}
use Rattle.logos_records.proofs.comparing.push_difference_record.Goals as goal

pub returns : goal.returns
returns c =
    let members = gains_then c.push_bool.ensures (gains_then c.push_bytes.ensures (gains_then c.push_finding.ensures c.push_finding-2.ensures)) in
    object_put c.begin_object.ensures members c.end_object.ensures c.end_line.ensures

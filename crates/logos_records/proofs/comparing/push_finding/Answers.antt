use Rattle.logos_json.proofs.LineLemmas.{gains_then}
use Rattle.logos_records.proofs.comparing.push_finding.Goals as goal

pub returns : goal.returns
returns c =
    let members = gains_then c.push_maybe_number.ensures (gains_then c.push_maybe_text.ensures c.push_bytes.ensures) in
    gains_then c.push_name.ensures (gains_then c.begin_object.ensures (gains_then members c.end_object.ensures))

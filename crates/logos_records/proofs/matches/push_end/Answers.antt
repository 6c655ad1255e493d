use Rattle.logos_json.proofs.LineLemmas.{gains_then}
use Rattle.logos_records.proofs.matches.push_end.Goals as goal

pub returns : goal.returns
returns c = gains_then c.push_number.ensures (gains_then c.push_number-2.ensures (gains_then (rw c.bytes_between.ensures at c.push_bytes.ensures) c.push_bool.ensures))

use Rattle.logos_json.proofs.LineLemmas.{gains_then}
use Rattle.logos_records.proofs.leaves.push_shape_members.Goals as goal

pub returns : goal.returns
returns c = gains_then c.push_text.ensures (gains_then c.push_number.ensures (gains_then c.push_bool.ensures (gains_then c.push_maybe_text.ensures c.push_number-2.ensures)))

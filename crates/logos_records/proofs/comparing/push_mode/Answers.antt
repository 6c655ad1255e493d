use Rattle.logos_json.proofs.LineLemmas.{gains_then}
use Rattle.logos_records.proofs.comparing.push_mode.Goals as goal

pub returns : goal.returns
returns c = gains_then c.push_name.ensures (gains_then c.begin_object.ensures (gains_then c.push_bool.ensures c.end_object.ensures))

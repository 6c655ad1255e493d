use Rattle.logos_json.proofs.LineLemmas.{gains_then}
use Rattle.logos_json.proofs.lines.JsonLines.begin_list.Goals as goal

pub returns : goal.returns
returns c = gains_then c.push_name.ensures c.begin_array.ensures

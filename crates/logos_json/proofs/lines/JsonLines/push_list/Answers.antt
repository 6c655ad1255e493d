use Rattle.logos_json.proofs.LineLemmas.{gains_then}
use Rattle.logos_json.proofs.lines.JsonLines.push_list.Goals as goal

pub returns : goal.returns
returns c = gains_then c.begin_list.ensures (gains_then c.push_elements.ensures c.end_list.ensures)

use Rattle.logos_json.proofs.LineLemmas.{gains_then}
use Rattle.logos_messages.proofs.marked_lines.push_marked.Goals as goal

pub returns : goal.returns
returns c = gains_then c.begin_object.ensures (gains_then c.push_text.ensures (gains_then c.push_number.ensures (gains_then c.push_number-2.ensures c.end_object.ensures)))

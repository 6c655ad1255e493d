use Rattle.logos_json.proofs.LineLemmas.{gains_then}
use Rattle.logos_messages.proofs.marked_lines.push_lines.Goals as goal

pub returns : goal.returns
returns c = record {
  lines = c.push_each_line.ensures.lines;
  are = c.push_each_line.ensures.are;
  gained = gains_then c.begin_list.ensures (gains_then c.push_each_line.ensures.gained c.end_list.ensures);
}

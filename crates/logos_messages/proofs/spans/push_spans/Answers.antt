use Rattle.logos_messages.proofs.LineLemmas.{listed}
use Rattle.logos_messages.proofs.spans.push_spans.Goals as goal

pub returns : goal.returns
returns c =
    record {
      lines = c.push_span.ensures.lines;
      are = c.push_span.ensures.are;
      other_lines = c.push_other.ensures.lines;
      are_other = c.push_other.ensures.are;
      gained = listed c.begin_list.ensures c.push_span.ensures.gained c.push_other.ensures.gained c.end_list.ensures;
    }

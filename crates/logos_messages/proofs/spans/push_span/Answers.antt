use Rattle.logos_json.proofs.LineLemmas.{gains_then}
use Rattle.logos_messages.proofs.spans.push_span.Goals as goal

pub returns : goal.returns
returns c =
    let locations = rw (c.location.ensures, c.location-2.ensures) at c.push_locations.ensures in
    record {
      lines = c.push_lines.ensures.lines;
      are = rw (c.location.ensures, c.location-2.ensures) at c.push_lines.ensures.are;
      gained = gains_then c.begin_object.ensures (gains_then c.push_bytes.ensures (gains_then locations (gains_then c.push_label.ensures (gains_then c.push_lines.ensures.gained c.end_object.ensures))));
    }

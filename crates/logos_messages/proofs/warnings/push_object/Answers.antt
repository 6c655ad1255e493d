use Rattle.std.proofs.Common.{option_map, refl}
use Rattle.logos_json.proofs.LineLemmas.{gains_then}
use Rattle.logos_messages.proofs.warnings.push_object.Goals as goal

pub returns : goal.returns
returns c =
    record {
      shown = record { lines = c.push_spans.ensures.lines; other_lines = c.push_spans.ensures.other_lines; notes = c.push_notes.ensures.notes; rendered = option_map (λ t. t.now) c.args.rendered };
      lines = c.push_spans.ensures.are;
      other_lines = c.push_spans.ensures.are_other;
      is = refl;
      gained = gains_then c.begin_object.ensures (gains_then (rw c.as_str.ensures.value at c.push_head.ensures) (gains_then c.push_spans.ensures.gained (gains_then c.push_notes.ensures.gained (gains_then c.push_maybe_text.ensures c.end_object.ensures))));
    }

use Rattle.logos_json.proofs.LineLemmas.{gains_then}
use Rattle.logos_messages.proofs.LineLemmas.{notes_then}
use Rattle.logos_messages.proofs.notes.push_notes.Goals as goal

pub returns : goal.returns
returns c =
    let notes = notes_then c.push_other_lines.ensures (notes_then c.push_put_in.ensures (notes_then c.push_starts.ensures c.push_advice.ensures)) in
    record { notes = notes.notes; gained = gains_then c.begin_list.ensures (gains_then notes.gained c.end_list.ensures) }

use Rattle.logos_json.proofs.LineLemmas.{gains_then}
use Rattle.logos_messages.proofs.LineLemmas.{notes_then}
use Rattle.logos_messages.proofs.warnings.push_notes.Goals as goal

pub returns : goal.returns
returns c =
    let notes = notes_then c.push_text.ensures c.push_text-2.ensures in
    record { notes = notes.notes; gained = gains_then c.begin_list.ensures (gains_then notes.gained c.end_list.ensures) }

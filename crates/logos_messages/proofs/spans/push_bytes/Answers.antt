use Rattle.logos_json.proofs.LineLemmas.{gains_then}
use Rattle.logos_messages.proofs.spans.push_bytes.Goals as goal

pub returns : goal.returns
returns c =
    gains_then (rw c.path.ensures at c.push_text.ensures)
    (gains_then (rw c.saturating_add.ensures at c.push_number.ensures) (rw c.saturating_add-2.ensures at c.push_number-2.ensures))

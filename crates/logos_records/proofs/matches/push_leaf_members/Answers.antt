use Rattle.logos_json.proofs.LineLemmas.{gains_then}
use Rattle.logos_records.proofs.matches.push_leaf_members.Goals as goal

pub returns : goal.returns
returns c = gains_then c.push_number.ensures (rw c.variant_at.ensures at c.push_maybe_text.ensures)

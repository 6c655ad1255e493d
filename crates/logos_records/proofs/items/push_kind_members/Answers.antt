use Rattle.logos_json.proofs.LineLemmas.{gains_then}
use Rattle.logos_records.proofs.items.push_kind_members.Goals as goal

pub returns : goal.returns
returns c = gains_then c.push_maybe_number.ensures (gains_then c.push_maybe_text.ensures c.push_bytes.ensures)

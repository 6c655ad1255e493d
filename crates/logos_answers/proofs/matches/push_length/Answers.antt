use Rattle.logos_page.proofs.PageLemmas.{gains_then}
use Rattle.logos_answers.proofs.matches.push_length.Goals as goal

pub returns : goal.returns
returns c = gains_then c.push_number.ensures (rw c.unit_of.ensures at c.push.ensures)

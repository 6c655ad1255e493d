use Rattle.logos_page.proofs.PageLemmas.{gains_then}
use Rattle.logos_answers.proofs.matches.push_winner.Goals as goal

pub returns : goal.returns
returns c = gains_then c.push_leaf.ensures (rw c.reason.ensures at c.push.ensures)

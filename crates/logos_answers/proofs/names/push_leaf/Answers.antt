use Rattle.logos_page.proofs.PageLemmas.{gains_then}
use Rattle.logos_answers.proofs.names.push_leaf.Goals as goal

pub returns : goal.returns
returns c = gains_then c.push.ensures (gains_then (rw c.name_at.ensures at c.push-2.ensures) (gains_then c.push-3.ensures (gains_then c.push_number.ensures c.push-4.ensures)))

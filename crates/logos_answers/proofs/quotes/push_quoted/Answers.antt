use Rattle.logos_page.proofs.PageLemmas.{gains_then}
use Rattle.logos_answers.proofs.quotes.push_quoted.Goals as goal

pub returns : goal.returns
returns c = gains_then c.push.ensures (gains_then (rw c.clipped.ensures at c.push_shown.ensures) (rw c.closing.ensures at c.push-2.ensures))

use Rattle.logos_page.proofs.PageLemmas.{gains_then}
use Rattle.logos_answers.proofs.examples.push_lost.Goals as goal

pub returns : goal.returns
returns c = gains_then c.push.ensures (gains_then c.push_quoted.ensures (gains_then c.push-2.ensures c.push_leaf.ensures))

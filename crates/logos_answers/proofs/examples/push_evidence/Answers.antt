use Rattle.logos_page.proofs.PageLemmas.{gains_then}
use Rattle.logos_answers.proofs.examples.push_evidence.Goals as goal

pub returns : goal.returns
returns c = gains_then c.push_head.ensures (gains_then c.push_found.ensures (gains_then c.push_loss.ensures c.push.ensures))

use Rattle.logos_page.proofs.PageLemmas.{gains_then}
use Rattle.logos_answers.proofs.matches.push_line.Goals as goal

pub returns : goal.returns
returns c = gains_then c.push_head.ensures (gains_then c.push.ensures (gains_then c.push_number.ensures (gains_then c.push-2.ensures c.push_extent.ensures)))

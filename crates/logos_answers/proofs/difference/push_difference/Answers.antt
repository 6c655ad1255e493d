use Rattle.logos_page.proofs.PageLemmas.{gains_then}
use Rattle.logos_answers.proofs.difference.push_difference.Goals as goal

pub returns : goal.returns
returns c = (c.as_str.result.now, gains_then c.push_input.ensures c.push.ensures)

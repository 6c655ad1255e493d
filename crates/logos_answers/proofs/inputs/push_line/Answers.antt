use Rattle.logos_page.proofs.PageLemmas.{gains_then}
use Rattle.logos_answers.proofs.inputs.push_line.Goals as goal

pub returns : goal.returns
returns c = gains_then c.push_literal.ensures c.push.ensures

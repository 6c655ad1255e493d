use Rattle.logos_page.proofs.PageLemmas.{gains_then}
use Rattle.logos_answers.proofs.examples.push_example_of.Goals as goal

pub returns : goal.returns
returns c = gains_then c.push.ensures c.push_quoted.ensures

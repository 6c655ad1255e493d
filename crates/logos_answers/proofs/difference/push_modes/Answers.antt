use Rattle.logos_page.proofs.PageLemmas.{gains_then}
use Rattle.logos_answers.proofs.difference.push_modes.Goals as goal

pub returns : goal.returns
returns c = gains_then c.push_mode.ensures c.push_mode-2.ensures

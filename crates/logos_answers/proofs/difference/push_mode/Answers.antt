use Rattle.logos_page.proofs.PageLemmas.{gains_then}
use Rattle.logos_answers.proofs.difference.push_mode.Goals as goal

pub returns : goal.returns
returns c = gains_then c.push_shown.ensures (rw c.utf8_mode.ensures at (rw c.mode_text.ensures at c.push.ensures))

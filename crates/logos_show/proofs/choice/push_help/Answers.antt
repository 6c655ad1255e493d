use Rattle.logos_page.proofs.PageLemmas.{gains_then}
use Rattle.logos_show.proofs.choice.push_help.Goals as goal

pub returns : goal.returns
returns c = gains_then c.push.ensures (gains_then c.push_shown.ensures c.push-2.ensures)

use Rattle.logos_page.proofs.PageLemmas.{gains_then}
use Rattle.logos_show.proofs.choice.push_several.Goals as goal

pub returns : goal.returns
returns c = gains_then c.push.ensures (gains_then c.push_name.ensures (gains_then c.push-2.ensures (gains_then c.push_shown.ensures c.push-3.ensures)))

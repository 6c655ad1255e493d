use Rattle.logos_page.proofs.PageLemmas.{painted_gained}
use Rattle.logos_page.proofs.page.Page.paint.Goals as goal

pub returns : goal.returns
returns c = painted_gained c.args.style c.args.text.now _ _ _ _ c.begin.ensures c.push.ensures c.end.ensures

use Rattle.std.proofs.Common.{ap, string_bytes}
use Rattle.logos_page.specs.Pages.{PageValue}
use Rattle.logos_page.proofs.PageLemmas.{gains_then}
use Rattle.logos_show.proofs.ChoiceLemmas.{finished_exactly}
use Rattle.logos_show.proofs.choice.no_lexer_text.Goals as goal

pub returns : goal.returns
returns c =
    finished_exactly string_bytes c.finish.result _ c.new-page.result _ (ap (λ (page : PageValue). page.text) c.new-page.ensures)
    (gains_then c.push.ensures (gains_then c.push_name.ensures (gains_then c.push-2.ensures (gains_then c.push_shown.ensures c.push-3.ensures)))) c.finish.ensures.whole c.finish.ensures.text

use Rattle.logos_page.proofs.PageLemmas.{gains_then}
use Rattle.logos_html.proofs.spans.push_name.Goals as goal

pub returns : goal.returns
returns c = gains_then c.push_markup.ensures (gains_then (rw c.name_at.ensures at c.push_text.ensures) (gains_then c.push_markup-2.ensures c.push_number.ensures))

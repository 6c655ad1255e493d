use Rattle.logos_page.proofs.PageLemmas.{gains_then}
use Rattle.logos_html.proofs.spans.push_data.Goals as goal

pub returns : goal.returns
returns c = gains_then c.push_markup.ensures (gains_then c.push_range.ensures c.push_markup-2.ensures)

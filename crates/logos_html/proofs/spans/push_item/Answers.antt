use Rattle.logos_page.proofs.PageLemmas.{gains_then}
use Rattle.logos_html.proofs.spans.push_item.Goals as goal

pub returns : goal.returns
returns c =
    let span = c.span_of-span.ensures in
    gains_then c.push_head.ensures (gains_then (rw (span.from, span.to) at c.push_label_end.ensures)
    (gains_then (rw c.as_str.ensures.value at c.push_description.ensures) (rw (span.from, span.to) at c.push_slice.ensures)))

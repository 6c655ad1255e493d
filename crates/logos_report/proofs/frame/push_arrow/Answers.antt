use Rattle.logos_page.proofs.PageLemmas.{gains_then}
use Rattle.logos_report.proofs.frame.push_arrow.Goals as goal

pub returns : goal.returns
returns c = gains_then c.paint.ensures (gains_then c.push.ensures (gains_then c.push_line_column.ensures c.push-2.ensures))

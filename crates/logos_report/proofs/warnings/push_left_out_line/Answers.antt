use Rattle.logos_page.proofs.PageLemmas.{gains_then}
use Rattle.logos_report.proofs.warnings.push_left_out_line.Goals as goal

pub returns : goal.returns
returns c = gains_then c.paint.ensures (gains_then c.push.ensures (gains_then c.push_number.ensures c.push-2.ensures))

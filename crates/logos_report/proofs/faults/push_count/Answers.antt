use Rattle.logos_page.proofs.PageLemmas.{gains_then}
use Rattle.logos_report.proofs.faults.push_count.Goals as goal

pub returns : goal.returns
returns c = gains_then c.push.ensures (gains_then c.push_number.ensures (rw c.errors_text.ensures at c.push-2.ensures))

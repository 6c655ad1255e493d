use Rattle.logos_report.proofs.ReportLemmas.{shows_nothing, shows_then}
use Rattle.logos_report.proofs.notes.push_other_lines.Goals as goal

pub loop-line-init : goal.loop-line-init
loop-line-init c = shows_nothing _

pub loop-line-preserved : goal.loop-line-preserved
loop-line-preserved c = shows_then c.loop-line.invariant c.push_other_line.ensures

use Rattle.logos_report.proofs.ReportLemmas.{begins_then, line_shown_aside}
use Rattle.logos_report.proofs.frame.push_line.Goals as goal

pub returns : goal.returns
returns c = line_shown_aside (begins_then c.push_line_number.ensures c.push_window.ensures) c.push.ensures

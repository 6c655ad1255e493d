use Rattle.logos_report.proofs.ReportLemmas.{empty_shown, shown, shows_then}
use Rattle.logos_report.proofs.faults.push_rest.Goals as goal

pub returns : goal.returns
returns c = shows_then (shown c.push_rest_line.ensures) (empty_shown c.push.ensures)

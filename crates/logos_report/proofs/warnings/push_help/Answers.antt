use Rattle.logos_report.proofs.ReportLemmas.{shows_nothing}
use Rattle.logos_report.proofs.warnings.push_help.Goals as goal

pub returns-in-Some : goal.returns-in-Some
returns-in-Some c = c.push_line.ensures

pub returns-in_default : goal.returns-in_default
returns-in_default c = shows_nothing _

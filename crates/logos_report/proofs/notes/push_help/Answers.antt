use Rattle.logos_report.proofs.ReportLemmas.{line_shown_aside, shows_nothing}
use Rattle.logos_report.proofs.notes.push_help.Goals as goal

pub returns-in-Some : goal.returns-in-Some
returns-in-Some c = line_shown_aside c.push_note.ensures c.push.ensures

pub returns-in_default : goal.returns-in_default
returns-in_default c = shows_nothing _

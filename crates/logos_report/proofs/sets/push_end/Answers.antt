use Rattle.logos_report.proofs.ReportLemmas.{shows_nothing}
use Rattle.logos_report.proofs.sets.push_end.Goals as goal

pub returns-then-is_last : goal.returns-then-is_last
returns-then-is_last c = c.push_meeting.ensures

pub returns-else-is_last : goal.returns-else-is_last
returns-else-is_last c = shows_nothing _

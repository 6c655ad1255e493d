use Rattle.logos_report.proofs.ReportLemmas.{first_shown}
use Rattle.logos_report.proofs.sets.push_member.Goals as goal

pub returns : goal.returns
returns c = first_shown c.push_location_of-width.ensures c.push_end.ensures

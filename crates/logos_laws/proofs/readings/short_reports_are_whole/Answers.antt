use Rattle.logos_laws.proofs.readings.ShortReports.{whole}
use Rattle.logos_laws.proofs.readings.short_reports_are_whole.Goals as goal

pub returns : goal.returns
returns c is_colored source parts none few = whole is_colored source parts none few

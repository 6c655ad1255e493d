use Rattle.logos_laws.proofs.readings.ReportLines.{occur}
use Rattle.logos_laws.proofs.readings.report_lines_occur.Goals as goal

pub returns : goal.returns
returns c is_colored lines whole = occur is_colored lines whole

use Rattle.logos_report.proofs.ReportLemmas.{line_shown_aside}
use Rattle.logos_report.proofs.warnings.push_line.Goals as goal

pub returns : goal.returns
returns c = line_shown_aside c.push_note.ensures c.push.ensures

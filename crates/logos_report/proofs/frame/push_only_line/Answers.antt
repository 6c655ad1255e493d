use Rattle.logos_report.proofs.ReportLemmas.{shows_then}
use Rattle.logos_report.proofs.frame.push_only_line.Goals as goal

pub returns : goal.returns
returns c = shows_then c.push_line.ensures c.push_carets.ensures

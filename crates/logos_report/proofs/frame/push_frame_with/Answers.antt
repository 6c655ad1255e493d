use Rattle.logos_report.proofs.ReportLemmas.{shows_then}
use Rattle.logos_report.proofs.frame.push_frame_with.Goals as goal

pub returns : goal.returns
returns c = shows_then c.push_offset.ensures c.push_lines.ensures

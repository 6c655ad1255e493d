use Rattle.logos_report.proofs.ReportLemmas.{continues_then}
use Rattle.logos_report.proofs.window.LineWindow.push.Goals as goal

pub returns : goal.returns
returns c = continues_then c.push_cut.ensures (continues_then c.push_characters-continues.ensures c.push_cut-2.ensures)

use Rattle.std.proofs.Common.{refl}
use Rattle.logos_report.proofs.ReportLemmas.{continued, continues_nothing}
use Rattle.logos_report.proofs.window.push_cut.Goals as goal

pub returns-then-is_cut : goal.returns-then-is_cut
returns-then-is_cut c = continued refl c.push.ensures

pub returns-else-is_cut : goal.returns-else-is_cut
returns-else-is_cut c = continues_nothing _

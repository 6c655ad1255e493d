use Rattle.std.proofs.Common.{[], refl}
use Rattle.logos_report.proofs.ReportLemmas.{marked}
use Rattle.logos_report.proofs.frame.push_margin.Goals as goal

pub returns : goal.returns
returns c = marked c.saturating_add.result 124 [] refl refl c.push_times.ensures c.paint.ensures

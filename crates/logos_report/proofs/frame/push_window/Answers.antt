use Rattle.std.proofs.Common.{refl}
use Rattle.logos_report.proofs.ReportLemmas.{continued, continues_nothing, continues_then}
use Rattle.logos_report.proofs.frame.push_window.Goals as goal

pub returns-then-not-is_empty : goal.returns-then-not-is_empty
returns-then-not-is_empty c = continues_then (continued refl c.push.ensures) c.push-then-not-is_empty.ensures

pub returns-else-not-is_empty : goal.returns-else-not-is_empty
returns-else-not-is_empty c = continues_nothing _

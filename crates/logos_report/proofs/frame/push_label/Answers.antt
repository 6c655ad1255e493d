use Rattle.std.proofs.Common.{refl}
use Rattle.logos_report.proofs.ReportLemmas.{continued, continues_nothing, continues_then, line_shown}
use Rattle.logos_report.proofs.frame.push_label.Goals as goal

pub returns-then-not-is_empty : goal.returns-then-not-is_empty
returns-then-not-is_empty c = continues_then (continued refl c.push.ensures) (continued (line_shown _) c.push_shown.ensures)

pub returns-else-not-is_empty : goal.returns-else-not-is_empty
returns-else-not-is_empty c = continues_nothing _

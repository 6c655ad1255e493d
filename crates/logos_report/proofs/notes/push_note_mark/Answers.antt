use Rattle.std.proofs.Common.{[], refl}
use Rattle.logos_report.proofs.ReportLemmas.{begins_then, continued, marked}
use Rattle.logos_report.proofs.notes.push_note_mark.Goals as goal

pub returns : goal.returns
returns c = begins_then (marked c.saturating_add.result 61 [] refl refl c.push_times.ensures c.paint.ensures) (continued refl c.push.ensures)

use Rattle.std.proofs.Common.{refl}
use Rattle.logos_report.proofs.ReportLemmas.{continued, continues_nothing, continues_then, line_location}
use Rattle.logos_report.proofs.notes.push_leaf_at.Goals as goal

pub returns-in-Some : goal.returns-in-Some
returns-in-Some c = continues_then (continued refl c.push.ensures) (continued (line_location c.args.part.source.now c.args.part.offset c.in-Some.other.now.span.from) c.push_location.ensures)

pub returns-in_default : goal.returns-in_default
returns-in_default c = continues_nothing _

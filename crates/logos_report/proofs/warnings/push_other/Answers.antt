use Rattle.logos_report.proofs.ReportLemmas.{begins_then, continued, line_location, line_shown_aside, shows_nothing}
use Rattle.logos_report.proofs.warnings.push_other.Goals as goal

pub returns-in-Some : goal.returns-in-Some
returns-in-Some c = line_shown_aside (begins_then c.push_note.ensures (continued (line_location c.args.part.source.now c.args.part.offset c.in-Some.span.from) c.push_location.ensures)) c.push.ensures

pub returns-in_default : goal.returns-in_default
returns-in_default c = shows_nothing _

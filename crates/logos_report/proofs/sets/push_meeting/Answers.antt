use Rattle.logos_report.proofs.ReportLemmas.{empty_shown, line_shown_aside, shows_then}
use Rattle.logos_report.proofs.sets.push_meeting.Goals as goal

pub returns : goal.returns
returns c = shows_then (line_shown_aside c.push_note.ensures c.push.ensures) (shows_then c.push_help.ensures (empty_shown c.push-2.ensures))

use Rattle.logos_report.proofs.ReportLemmas.{empty_shown, shows_then}
use Rattle.logos_report.proofs.notes.push_notes.Goals as goal

pub returns : goal.returns
returns c = shows_then c.push_other_lines.ensures (shows_then c.push_put_in_note.ensures (shows_then c.push_other_location.ensures (shows_then c.push_help.ensures (empty_shown c.push.ensures))))

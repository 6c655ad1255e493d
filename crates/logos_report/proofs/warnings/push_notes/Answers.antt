use Rattle.logos_report.proofs.ReportLemmas.{empty_shown, shows_then}
use Rattle.logos_report.proofs.warnings.push_notes.Goals as goal

pub returns : goal.returns
returns c = shows_then c.push_further.ensures (shows_then c.push_other.ensures (shows_then c.push_help.ensures (empty_shown c.push.ensures)))

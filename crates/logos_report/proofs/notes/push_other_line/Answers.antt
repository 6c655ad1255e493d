use Rattle.logos_report.proofs.ReportLemmas.{aside_shown, shows_nothing}
use Rattle.logos_report.proofs.notes.push_other_line.Goals as goal

pub returns-then-is_empty : goal.returns-then-is_empty
returns-then-is_empty c = shows_nothing _

pub returns : goal.returns
returns c = aside_shown c.push_note.ensures c.push_leaf_location.ensures

use Rattle.std.proofs.Common.{◌∷◌, [], refl}
use Rattle.logos_page.proofs.PageLemmas.{gains_nothing}
use Rattle.logos_report.proofs.ReportLemmas.{line_shown_aside, marked, shows_nothing}
use Rattle.logos_report.proofs.frame.push_dots.Goals as goal

pub returns-then-lines_after-gt1 : goal.returns-then-lines_after-gt1
returns-then-lines_after-gt1 c = line_shown_aside (marked 0 46 (46 ∷ 46 ∷ []) refl refl (gains_nothing _) c.paint.ensures) c.push.ensures

pub returns-else-lines_after-gt1 : goal.returns-else-lines_after-gt1
returns-else-lines_after-gt1 c = shows_nothing _

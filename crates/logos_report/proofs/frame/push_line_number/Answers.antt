use Rattle.std.proofs.Common.{◌++◌, codes, decimal, refl}
use Rattle.logos_page.specs.Pages.{times}
use Rattle.logos_page.specs.declared.page.Style.TheVariants.{Frame}
use Rattle.logos_page.proofs.PageLemmas.{gains_then, painted_gained}
use Rattle.logos_report.proofs.ReportLemmas.{line_both, line_times, numbered}
use Rattle.logos_report.proofs.frame.push_line_number.Goals as goal

pub returns : goal.returns
returns c =
    let blanks = times c.saturating_sub.result (codes " ") in
    numbered c.args.line (blanks ++ codes " |") (line_both blanks (codes " |") (line_times c.saturating_sub.result (codes " ") refl) refl)
    (painted_gained Frame (decimal c.args.line ++ (blanks ++ codes " |")) _ _ _ _ c.begin.ensures (gains_then c.push_number.ensures (gains_then c.push_times.ensures c.push.ensures)) c.end.ensures)

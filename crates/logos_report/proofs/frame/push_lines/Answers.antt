use Rattle.logos_report.proofs.ReportLemmas.{line_shown_aside, shows_then}
use Rattle.logos_report.proofs.frame.push_lines.Goals as goal

pub returns-then-frame : goal.returns-then-frame
returns-then-frame c = shows_then (line_shown_aside c.push_margin.ensures c.push.ensures) c.push_only_line.ensures

pub returns-else-frame : goal.returns-else-frame
returns-else-frame c =
    let lines = shows_then c.push_first_line.ensures (shows_then c.push_dots.ensures c.push_last_line.ensures) in
    shows_then (line_shown_aside c.push_margin.ensures c.push.ensures) lines

use Rattle.logos_report.specs.Reports.{Continues}
use Rattle.logos_report.proofs.window.LineWindow.push_characters.Given as goal

abbrev pub invariant-loop-character : goal.invariant-loop-character
invariant-loop-character l = Continues l.initial.page l.page

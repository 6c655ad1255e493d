use Rattle.std.proofs.Common.{[]}
use Rattle.logos_report.specs.Reports.{Shows}
use Rattle.logos_report.proofs.notes.push_other_lines.Given as goal

abbrev pub invariant-loop-line : goal.invariant-loop-line
invariant-loop-line l = Shows [] l.initial.page l.page

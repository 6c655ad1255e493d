use Rattle.logos_messages.specs.Growing.{YieldsLines}
use Rattle.logos_messages.proofs.marked_lines.push_each_line.Given as goal

abbrev pub invariant-loop-number : goal.invariant-loop-number
invariant-loop-number l = YieldsLines l.source.text l.reach.first l.reach.last l.initial.lines l.lines

use Rattle.logos_messages.specs.Growing.{YieldsNotes}
use Rattle.logos_messages.proofs.notes.push_other_lines.Given as goal

abbrev pub invariant-loop-text : goal.invariant-loop-text
invariant-loop-text l = YieldsNotes l.initial.lines l.lines

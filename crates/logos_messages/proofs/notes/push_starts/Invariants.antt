use Rattle.logos_messages.specs.Growing.{YieldsNotes}
use Rattle.logos_messages.proofs.notes.push_starts.Given as goal

abbrev pub invariant-loop-start : goal.invariant-loop-start
invariant-loop-start l = YieldsNotes l.initial.lines l.lines

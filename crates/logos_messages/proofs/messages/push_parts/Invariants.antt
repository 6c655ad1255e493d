use Rattle.logos_json.specs.Lines.{LinesValue}
use Rattle.logos_messages.specs.Messages.{PutsFrom}
use Rattle.logos_messages.proofs.messages.push_parts.Given as goal

-- with the parts that are left the lines of all are pushed
abbrev pub invariant-loop-number : goal.invariant-loop-number
invariant-loop-number l = (new : LinesValue) → PutsFrom l.source l.refused l.number l.lines new → PutsFrom l.source l.refused 0 l.initial.lines new

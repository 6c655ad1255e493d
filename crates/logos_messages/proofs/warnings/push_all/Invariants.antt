use Rattle.std.proofs.Common.{drop}
use Rattle.logos_json.specs.Lines.{LinesValue}
use Rattle.logos_messages.specs.Warnings.{PutsWarnings}
use Rattle.logos_messages.proofs.warnings.push_all.Given as goal

-- with the warnings that are left the lines of all are pushed
abbrev pub invariant-loop-warning : goal.invariant-loop-warning
invariant-loop-warning l =
    (new : LinesValue) → PutsWarnings l.part.source.now l.part.offset (drop l.warning-index l.warnings) l.lines new → PutsWarnings l.part.source.now l.part.offset l.warnings l.initial.lines new

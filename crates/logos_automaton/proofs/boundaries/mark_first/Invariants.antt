use Rattle.logos_automaton.specs.inside.Alike.{OpensAlike}
use Rattle.logos_positions.specs.Core as core
use Rattle.logos_positions.specs.Table.{reader_of}
use Rattle.logos_automaton.proofs.keys.MarkLemmas.{AreMarkedBelow}
use Rattle.logos_automaton.proofs.boundaries.mark_first.Given as goal

abbrev pub invariant-loop-byte : goal.invariant-loop-byte
invariant-loop-byte l = AreMarkedBelow (OpensAlike (core.character (reader_of l.table))) l.initial.marked l.marked l.byte

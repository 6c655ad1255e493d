use Rattle.std.proofs.Common.{◌≡◌}
use Rattle.logos_positions.specs.Table.{reader_of}
use Rattle.logos_automaton.proofs.keys.MarkLemmas.{AreMarkedBelow}
use Rattle.logos_automaton.proofs.boundaries.mark_row.Given as goal

abbrev pub invariant-loop-byte : goal.invariant-loop-byte
invariant-loop-byte l = AreMarkedBelow (λ x y. (reader_of l.table).follow l.row x ≡ (reader_of l.table).follow l.row y) l.initial.marked l.marked l.byte

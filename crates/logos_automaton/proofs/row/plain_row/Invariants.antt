use Rattle.std.proofs.Common.{◌≡◌, length}
use Rattle.logos_automaton.specs.inside.Prepared.{cores_of}
use Rattle.logos_automaton.specs.Keys.{Extends, IsRow}
use Rattle.logos_automaton.proofs.row.plain_row.Given as goal

abbrev pub invariant-loop-byte : goal.invariant-loop-byte
invariant-loop-byte l = record {
  size : length l.row ≡ 256;
  extends : Extends (cores_of l.trees) l.trees.looks l.initial.states.keys l.states.keys l.byte;
  row : IsRow (cores_of l.trees) l.trees.looks l.states.keys l.state l.row l.byte;
}

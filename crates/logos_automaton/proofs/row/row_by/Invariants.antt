use Rattle.std.proofs.Common.{◌≡◌, ◌<◌, ◌≤◌, ◌+◌, ℕ, List, length, slice_index}
use Rattle.logos_automaton.specs.inside.Steps.{Foresees, state_after}
use Rattle.logos_automaton.specs.Keys.{Extends, Grows, IsAt}
use Rattle.logos_positions.specs.Core.{Core}
use Rattle.logos_automaton.proofs.row.row_by.Given as goal

abbrev pub invariant-loop-byte : goal.invariant-loop-byte
invariant-loop-byte l = record {
  size : length l.row ≡ 256;
  extends : (ts : List Core) (i : ℕ) → Foresees ts l.steps.looks l.initial.states.keys i l.steps.steps.now l.steps.lives.now →
      Extends ts l.steps.looks l.initial.states.keys l.states.keys l.byte;
  grows : Grows l.initial.states.keys l.states.keys;
  few : length l.states.keys ≤ length l.initial.states.keys + l.byte;
  at : (x : ℕ) → x < l.byte → IsAt l.states.keys (slice_index l.row x) (state_after l.steps.looks l.steps.steps.now l.steps.lives.now x);
}

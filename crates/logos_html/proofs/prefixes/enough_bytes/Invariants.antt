use Rattle.std.proofs.Common.{◌≡◌, ◌<◌, Some, length, take}
use Rattle.logos_automaton.specs.Automaton.{dfa_after}
use Rattle.logos_automaton.specs.DfaView.{dfa_of}
use Rattle.logos_html.proofs.prefixes.enough_bytes.Given as goal

-- the state is the one after the bytes so far
abbrev pub invariant-loop-count : goal.invariant-loop-count
invariant-loop-count l = record {
  within : l.state.0 < length (dfa_of l.dfa).matches;
  after : dfa_after (dfa_of l.dfa) (Some (dfa_of l.dfa).start) (take l.count l.rest) ≡ Some l.state.0;
}

use Rattle.std.proofs.Common.{◌≡◌, ◌<◌, ℕ, Some}
use Rattle.logos_automaton.specs.Automaton.{dfa_next}
use Rattle.logos_automaton.specs.DfaView.{dfa_of}
use Rattle.logos_html.proofs.prefixes.stays.Given as goal

-- each lower byte leads from the state to itself
abbrev pub invariant-loop-byte : goal.invariant-loop-byte
invariant-loop-byte l = (b : ℕ) → b < l.byte → dfa_next (dfa_of l.dfa) (Some l.state.0) b ≡ Some l.state.0

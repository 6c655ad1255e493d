-- The states that can be reached in an automaton.
use Rattle.std.specs.Prelude.{◌≡◌, ℕ, ◌<◌, Some, length, slice_get}
use Rattle.logos_automaton.specs.Automaton.{Automaton, dfa_next}

-- A path from the start to the state: steps by bytes and by the end.
pub data Way (dfa : Automaton) : ℕ → Type 0 where
  at_the_start : Way dfa dfa.start
  after_byte : (s b t : ℕ) → b < 256 → Way dfa s → dfa_next dfa (Some s) b ≡ Some t → Way dfa t
  after_end : (s t : ℕ) → Way dfa s → slice_get dfa.at_end s ≡ Some t → Way dfa t

-- There is a path to the state.
abbrev pub IsReachable : Automaton → ℕ → Type 0
IsReachable dfa s = ∥ Way dfa s ∥₁

-- There is a path to each state.
abbrev pub AreReachable : Automaton → Type 0
AreReachable dfa = (s : ℕ) → s < length dfa.matches → IsReachable dfa s

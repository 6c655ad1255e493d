-- The bytes on which the matches from an offset depend.
use Rattle.std.specs.Prelude.{◌≡◌, ◌<◌, ◌≤◌, ◌⊎◌, ℕ, List, [], Some, length, slice_get, take}
use Rattle.logos_automaton.specs.Automaton.{Automaton, dfa_after, dfa_next}

module _ (dfa : Automaton) where
  -- A state lists no leaf, and leads only to itself.
  pub record IsDead (s : ℕ) : Type 0 where
    pub lists : slice_get dfa.matches s ≡ Some []
    pub next : (b : ℕ) → b < 256 → dfa_next dfa (Some s) b ≡ Some s
    pub at_end : slice_get dfa.at_end s ≡ Some s

  -- After these bytes the automaton is in a dead state.
  pub record EndsDead (bytes : List ℕ) : Type 0 where
    pub state : ℕ
    pub dead : IsDead state
    pub after : dfa_after dfa (Some dfa.start) bytes ≡ Some state

  -- No byte after this number of bytes of a rest changes a match: they are the whole rest,
  -- or the automaton is then in a dead state.
  pub record IsEnough (rest : List ℕ) (count : ℕ) : Type 0 where
    pub within : count ≤ length rest
    pub decides : (count ≡ length rest) ⊎ EndsDead (take count rest)

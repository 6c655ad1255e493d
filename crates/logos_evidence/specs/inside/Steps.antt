-- Steps of an automaton, from numbers that need not be states.
use Rattle.std.specs.Prelude.{ℕ, List, length, Option, None, Some, if◌then◌else◌, nat_lt, slice_get, option_and_then}
use Rattle.logos_automaton.specs.Automaton.{Automaton, dfa_next}

module _ (dfa : Automaton) where
  -- The state to which a byte leads, if the number is a state.
  abbrev pub step_by : ℕ → ℕ → Option ℕ
  step_by s b = if nat_lt s (length dfa.matches) then dfa_next dfa (Some s) b else None

  -- The state to which the end of the input leads, if the number is a state.
  abbrev pub step_at_end : ℕ → Option ℕ
  step_at_end s = if nat_lt s (length dfa.matches) then slice_get dfa.at_end s else None

  abbrev pub listed_at_end : ℕ → Option (List ℕ)
  listed_at_end s = option_and_then (slice_get dfa.matches) (step_at_end s)

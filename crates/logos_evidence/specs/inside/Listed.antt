-- The matches that an automaton lists on its way over an input.
use Rattle.std.specs.Prelude.{ℕ, ◌+◌, List, [], ◌∷◌, ◌++◌, map, Option, None, Some, slice_get, option_and_then}
use Rattle.logos_automaton.specs.Automaton.{Automaton, dfa_next}
use Rattle.logos_evidence.specs.declared.matches.Match.{Match}

abbrev pub match_to : (ℕ → ℕ) → ℕ → ℕ → Match
match_to priority end leaf = record { leaf = leaf; end = end; priority = priority leaf }

module _ (dfa : Automaton) (priority : ℕ → ℕ) where
  abbrev pub matches_in : ℕ → Option (List ℕ) → List Match
  matches_in end None = []
  matches_in end (Some leaves) = map (match_to priority end) leaves

  -- The matches that a state lists, which end at an offset.
  abbrev pub matches_at : ℕ → Option ℕ → List Match
  matches_at end s = matches_in end (option_and_then (slice_get dfa.matches) s)

  -- The matches on the way from a state that end at the offset `end` or later, with the remaining
  -- bytes.
  abbrev pub listed : ℕ → Option ℕ → List ℕ → List Match
  listed end s [] = matches_at end (option_and_then (slice_get dfa.at_end) s)
  listed end s (b ∷ bytes) = matches_at end (dfa_next dfa s b) ++ listed (end + 1) (dfa_next dfa s b) bytes

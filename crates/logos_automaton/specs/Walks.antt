-- The elements that the iterators over an automaton have not returned yet.
use Rattle.std.specs.Prelude.{ℕ, ◌-◌, List, [], ◌∷◌, ◌++◌, Option, Some, None}
use Rattle.std.specs.List.{range_with_len}
use Rattle.logos_automaton.specs.declared.dfa.walks.Matches.{Matches}
use Rattle.logos_automaton.specs.declared.dfa.walks.Children.{Children}
use Rattle.logos_automaton.specs.declared.dfa.walks.DfaStates.{DfaStates}

-- The numbers of the leaves that an iterator has not returned yet.
abbrev pub matches_left : Matches → List ℕ
matches_left matches = matches.leaves.now

-- The list that contains only the element, or an empty list if there is none.
abbrev pub at_most_one : Option ℕ → List ℕ
at_most_one None = []
at_most_one (Some n) = n ∷ []

-- The numbers of the targets that an iterator has not returned yet: those for bytes, then that for
-- the end.
abbrev pub children_left : Children → List ℕ
children_left children = children.row.now ++ at_most_one children.end

-- The numbers of the states that an iterator has not returned yet, ascending.
abbrev pub states_left : DfaStates → List ℕ
states_left states = range_with_len states.next (states.count - states.next)

-- The views of an automaton in contracts.
use Rattle.logos_automaton.specs.Keys.{automaton_of}
use Rattle.logos_automaton.specs.Automaton.{Automaton}
use Rattle.logos_automaton.specs.declared.dfa.Dfa.{Dfa}

-- The automaton that a `Dfa` represents.
abbrev pub dfa_of : Dfa → Automaton
dfa_of dfa = automaton_of 0 dfa.states.items dfa.rows.items dfa.ends.items

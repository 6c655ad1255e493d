use Rattle.std.proofs.Common.{ℕ, List, ◌↔◌, map, Contains}
use Rattle.logos_automaton.specs.DfaView.{dfa_of}
use Rattle.logos_automaton.specs.View.{rules_of}
use Rattle.logos_automaton.proofs.ambiguity.TopLemmas.{IsTopBelow}
use Rattle.logos_automaton.proofs.faults.top_sets.Given as goal

-- the sets of the states so far
abbrev pub invariant-loop-state : goal.invariant-loop-state
invariant-loop-state l = (set : List ℕ) → Contains (map (λ v. v.items) l.sets.keys) set ↔ IsTopBelow (rules_of l.rules) l.state (dfa_of l.dfa).matches set

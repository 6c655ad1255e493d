use Rattle.std.proofs.Common.{◌≡◌, ◌++◌, map, length}
use Rattle.std.specs.Vec.Iter.{into_iter_items, into_iter_len}
use Rattle.logos_automaton.specs.Errors.{fault_of, numbers}
use Rattle.logos_automaton.specs.Faults.{disambiguation}
use Rattle.logos_automaton.proofs.faults.disambiguations.Given as goal

abbrev pub invariant-loop-set : goal.invariant-loop-set
invariant-loop-set l =
    (map fault_of l.errors.items ++ map (λ set. disambiguation (numbers set.items)) (into_iter_items l.set-iterator) ≡ map (λ set. disambiguation (numbers set.items)) (into_iter_items l.initial.set-iterator))
    × (into_iter_len l.set-iterator ≡ length (into_iter_items l.set-iterator))

-- The faults that errors represent.
use Rattle.std.specs.Prelude.{ℕ, List, map}
use Rattle.logos_hir.specs.declared.leaf.LeafId.{LeafId}
use Rattle.logos_automaton.specs.Faults.{Fault, no_universal_start, empty_match, disambiguation}
use Rattle.logos_automaton.specs.declared.errors.GraphError.{GraphError}
use Rattle.logos_automaton.specs.declared.errors.GraphError.TheVariants.{NoUniversalStart, EmptyMatch, Disambiguation}

-- The numbers of leaves.
abbrev pub numbers : List LeafId → List ℕ
numbers = map (λ leaf. leaf.0)

-- The fault that an error represents.
abbrev pub fault_of : GraphError → Fault
fault_of NoUniversalStart = no_universal_start
fault_of (EmptyMatch leaf) = empty_match leaf.0
fault_of (Disambiguation leaves) = disambiguation (numbers leaves.items)

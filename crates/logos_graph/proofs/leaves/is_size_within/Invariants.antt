use Rattle.std.proofs.Common.{◌≡◌, ℕ, ◌+◌, drop}
use Rattle.logos_automaton.specs.Measures.{IsWithinLimit}
use Rattle.logos_automaton.specs.Measures.{size_of}
use Rattle.logos_graph.specs.View.{rules_of}
use Rattle.logos_graph.proofs.leaves.is_size_within.Given as goal

-- the sum so far, with the rest, is the whole
abbrev pub invariant-loop-leaf : goal.invariant-loop-leaf
invariant-loop-leaf l = (m : ℕ) × IsWithinLimit m l.sum × (m + size_of (rules_of (drop l.leaf-index l.leaves)) ≡ size_of (rules_of l.leaves))

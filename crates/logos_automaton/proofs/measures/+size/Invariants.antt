use Rattle.std.proofs.Common.{◌≡◌, ℕ, ◌+◌, map, drop}
use Rattle.logos_hir.specs.Tree.{trees}
use Rattle.logos_hir.specs.Hir.{tree_of}
use Rattle.logos_automaton.specs.Measures.{IsWithinLimit}
use Rattle.logos_positions.specs.Size.{sizes}
use Rattle.logos_automaton.proofs.measures.+size.Given as goal

-- the sum so far, with the rest, is the whole
abbrev pub invariant-limited_sizes-loop-hir : goal.invariant-limited_sizes-loop-hir
invariant-limited_sizes-loop-hir l = (m : ℕ) × IsWithinLimit m l.sum × (m + sizes (trees (map tree_of (drop l.hir-index l.hirs))) ≡ sizes (trees (map tree_of l.hirs)))

use Rattle.std.proofs.Common.{◌≡◌, map, drop}
use Rattle.logos_hir.specs.Tree.{trees}
use Rattle.logos_hir.specs.Hir.{tree_of}
use Rattle.logos_positions.specs.Positions.{some_has_look}
use Rattle.logos_automaton.proofs.measures.+has_look.Given as goal

-- one has an assertion exactly if one of the rest has
abbrev pub invariant-some_has_look-loop-hir : goal.invariant-some_has_look-loop-hir
invariant-some_has_look-loop-hir l = some_has_look (trees (map tree_of (drop l.hir-index l.hirs))) ≡ some_has_look (trees (map tree_of l.hirs))

use Rattle.std.proofs.Common.{◌≡◌, map, drop}
use Rattle.logos_hir.specs.Tree.{trees}
use Rattle.logos_hir.specs.Hir.{tree_of}
use Rattle.logos_hir.specs.Measure.{has_greedy_dot, some_greedy_dot}
use Rattle.logos_hir.proofs.measures.+check_for_greedy_all.Given as goal

-- the whole has one exactly if the rest has one
abbrev pub invariant-loop-part : goal.invariant-loop-part
invariant-loop-part l = has_greedy_dot (tree_of l.hir) ≡ some_greedy_dot (trees (map tree_of (drop l.part-index l.part-items)))

use Rattle.std.proofs.Common.{◌≡◌, map, drop}
use Rattle.logos_hir.specs.Tree.{trees}
use Rattle.logos_hir.specs.Hir.{tree_of}
use Rattle.logos_hir.specs.Passable.{all_passable, some_passable}
use Rattle.logos_automaton.proofs.measures.+passable.Given as goal

-- all can be passed exactly if all that are left can
abbrev pub invariant-all_passable-loop-part : goal.invariant-all_passable-loop-part
invariant-all_passable-loop-part l = all_passable (trees (map tree_of (drop l.part-index l.parts))) ≡ all_passable (trees (map tree_of l.parts))

-- one can be passed exactly if one that is left can
abbrev pub invariant-some_passable-loop-branch : goal.invariant-some_passable-loop-branch
invariant-some_passable-loop-branch l = some_passable (trees (map tree_of (drop l.branch-index l.branches))) ≡ some_passable (trees (map tree_of l.branches))

use Rattle.std.proofs.Common.{◌≡◌, ◌++◌, map, flat_map}
use Rattle.logos_hir.specs.Tree.{trees}
use Rattle.logos_hir.specs.Hir.{tree_of}
use Rattle.logos_hir.specs.Build.{parts_of, branches_of}
use Rattle.logos_hir.specs.Simplest.{all_simplest}
use Rattle.logos_hir.specs.inside.BuildSteps.{add_parts}
use Rattle.logos_hir.specs.inside.Fits.{fits_of}
use Rattle.logos_hir.proofs.simplifier.+simplify.Given as goal

abbrev pub invariant-push_all_simplified-loop-tree : goal.invariant-push_all_simplified-loop-tree
invariant-push_all_simplified-loop-tree l = map tree_of l.parts.items ≡ add_parts (map tree_of l.initial.parts.items) (flat_map parts_of (all_simplest (trees (map tree_of l.yielded))))

abbrev pub invariant-push_all_branches-loop-tree : goal.invariant-push_all_branches-loop-tree
invariant-push_all_branches-loop-tree l = record {
  items : map tree_of l.branches.items ≡ map tree_of l.initial.branches.items ++ flat_map branches_of (all_simplest (trees (map tree_of l.yielded)));
  fits : l.fits ≡ fits_of (flat_map branches_of (all_simplest (trees (map tree_of l.yielded))));
}

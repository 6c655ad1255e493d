use Rattle.std.proofs.Common.{◌≡◌, map, drop}
use Rattle.logos_hir.specs.Tree.{trees}
use Rattle.logos_hir.specs.Hir.{tree_of}
use Rattle.logos_hir.specs.Build.{is_byteless, all_byteless}
use Rattle.logos_hir.proofs.builder.+is_byteless.Given as goal

-- the whole is byteless exactly if the rest is
abbrev pub invariant-loop-part : goal.invariant-loop-part
invariant-loop-part l = is_byteless (tree_of l.hir) ≡ all_byteless (trees (map tree_of (drop l.part-index l.part-items)))

use Rattle.std.proofs.Common.{◌≡◌, map, flat_map}
use Rattle.logos_hir.specs.Hir.{tree_of}
use Rattle.logos_hir.specs.Build.{branches_of}
use Rattle.logos_hir.proofs.builder.branches.alternation.Given as goal

abbrev pub invariant-loop-branch : goal.invariant-loop-branch
invariant-loop-branch l = map tree_of l.branches.items ≡ flat_map branches_of (map tree_of l.yielded)

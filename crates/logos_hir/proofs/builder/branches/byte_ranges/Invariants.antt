use Rattle.std.proofs.Common.{◌≡◌, ◌++◌, map, drop, option_map}
use Rattle.logos_hir.specs.Hir.{pairs, tree_of}
use Rattle.logos_hir.specs.Build.{byte_ranges_of, all_ranges}
use Rattle.logos_hir.proofs.builder.branches.byte_ranges.Given as goal

-- the ranges so far, with those of the branches that are left, are those of all
abbrev pub invariant-loop-branch : goal.invariant-loop-branch
invariant-loop-branch l =
    option_map (λ more. pairs l.out.items ++ more) (all_ranges byte_ranges_of (map tree_of (drop l.branch-index l.branches))) ≡ all_ranges byte_ranges_of (map tree_of l.branches)

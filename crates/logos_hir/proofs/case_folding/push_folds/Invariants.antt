use Rattle.std.proofs.Common.{◌≡◌, ℕ, ◌||◌, drop}
use Rattle.unicode.specs.CaseFolding.{fold_pairs}
use Rattle.logos_hir.specs.Hir.{pairs}
use Rattle.logos_hir.specs.Sets.{in_ranges}
use Rattle.logos_hir.specs.inside.FoldSteps.{in_image}
use Rattle.logos_hir.proofs.case_folding.push_folds.Given as goal

abbrev pub invariant-loop-range : goal.invariant-loop-range
invariant-loop-range l = (c : ℕ) →
    (in_ranges (pairs l.out.items) c || in_image fold_pairs (in_ranges (pairs (drop l.range-index l.ranges))) c)
    ≡ (in_ranges (pairs l.initial.out.items) c || in_image fold_pairs (in_ranges (pairs l.ranges)) c)

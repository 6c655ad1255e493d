use Rattle.std.proofs.Common.{◌≡◌, ℕ, ◌||◌, drop}
use Rattle.logos_hir.specs.Hir.{pairs}
use Rattle.logos_hir.specs.Sets.{in_ranges}
use Rattle.logos_hir.specs.inside.FoldSteps.{shift}
use Rattle.logos_hir.proofs.case_folding.push_cases.Given as goal

abbrev pub invariant-loop-range : goal.invariant-loop-range
invariant-loop-range l = (c : ℕ) →
    (in_ranges (pairs l.out.items) c || (shift 65 90 97 (in_ranges (pairs (drop l.range-index l.ranges))) c || shift 97 122 65 (in_ranges (pairs (drop l.range-index l.ranges))) c))
    ≡ (in_ranges (pairs l.initial.out.items) c || (shift 65 90 97 (in_ranges (pairs l.ranges)) c || shift 97 122 65 (in_ranges (pairs l.ranges)) c))

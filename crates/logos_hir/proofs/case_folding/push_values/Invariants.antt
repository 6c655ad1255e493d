use Rattle.std.proofs.Common.{◌≡◌, ℕ, ◌||◌, drop}
use Rattle.logos_hir.specs.Hir.{pairs}
use Rattle.logos_hir.specs.Sets.{in_ranges}
use Rattle.logos_hir.specs.inside.FoldSteps.{in_values}
use Rattle.logos_hir.proofs.case_folding.push_values.Given as goal

abbrev pub invariant-loop-value : goal.invariant-loop-value
invariant-loop-value l = (c : ℕ) →
    (in_ranges (pairs l.out.items) c || in_values (drop l.value-index l.table) c) ≡ (in_ranges (pairs l.initial.out.items) c || in_values l.table c)

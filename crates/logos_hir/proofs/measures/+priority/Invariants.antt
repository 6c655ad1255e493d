use Rattle.std.proofs.Common.{◌≡◌, ℕ, ◌+◌, map, drop}
use Rattle.logos_hir.specs.Tree.{trees}
use Rattle.logos_hir.specs.Hir.{tree_of}
use Rattle.logos_hir.specs.Priority.{sum_of_values, least_value}
use Rattle.logos_hir.specs.Measure.{fitted}
use Rattle.logos_hir.specs.inside.MeasureSteps.{least_with}
use Rattle.logos_hir.proofs.measures.+priority.Given as goal

-- the sum so far, with the rest, is the whole
abbrev pub invariant-sum_of_priorities-loop-part : goal.invariant-sum_of_priorities-loop-part
invariant-sum_of_priorities-loop-part l =
    (m : ℕ) × (l.sum ≡ fitted m) × (m + sum_of_values (trees (map tree_of (drop l.part-index l.parts))) ≡ sum_of_values (trees (map tree_of l.parts)))

-- the least so far, with the rest, is the whole
abbrev pub invariant-least_priority-loop-other : goal.invariant-least_priority-loop-other
invariant-least_priority-loop-other l =
    (m : ℕ) × (l.best ≡ fitted m) × (least_with m (trees (map tree_of (drop l.other-index l.others))) ≡ least_value (trees (map tree_of l.branches)))

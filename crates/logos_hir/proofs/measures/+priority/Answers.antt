use Rattle.std.proofs.Common.{◌≡◌, ◌+◌, map, drop, ap, sym, ◌∙◌, arith}
use Rattle.std.proofs.lemmas.List.{at_drop_more}
use Rattle.logos_hir.specs.Tree.{trees}
use Rattle.logos_hir.specs.Hir.{tree_of}
use Rattle.logos_hir.specs.Priority.{value, sum_of_values, least_value}
use Rattle.logos_hir.proofs.MeasureLemmas.{least_value-first}
use Rattle.logos_hir.proofs.measures.+priority.Goals as goal

pub least_priority-loop-other-init : goal.least_priority-loop-other-init
least_priority-loop-other-init t c = (
  value (tree_of c.in-Some.first.now),
  c.priority-best.ensures,
  sym (ap (λ hs. least_value (trees (map tree_of hs))) c.in-Some.ensures.cases.0 ∙ least_value-first (tree_of c.in-Some.first.now) (trees (map tree_of c.in-Some.others.now))),
)

pub sum_of_priorities-loop-part-preserved : goal.sum_of_priorities-loop-part-preserved
sum_of_priorities-loop-part-preserved t c =
    let v = value (tree_of c.part-item.result) in
    let left : sum_of_values (trees (map tree_of (drop c.loop-part.part-index c.args.parts.now)))
    ≡ v + sum_of_values (trees (map tree_of (drop (c.loop-part.part-index + 1) c.args.parts.now))) =
    at_drop_more (λ hs. sum_of_values (trees (map tree_of hs))) c.args.parts.now c.loop-part.part-index c.part-item.result c.loop-part-test.true
    ∙ ap (λ h. value (tree_of h) + sum_of_values (trees (map tree_of (drop (c.loop-part.part-index + 1) c.args.parts.now)))) (sym c.part-item.is) in (
      c.loop-part.invariant.0 + v,
      c.plus-sum.ensures c.loop-part.invariant.0 v c.loop-part.invariant.1 c.priority.ensures,
      omega (arith, left, c.loop-part.invariant.2),
    )

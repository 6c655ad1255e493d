use Rattle.std.proofs.Common.{◌≡◌, ◌+◌, drop, get_or, ap, sym, ◌∙◌, arith}
use Rattle.std.proofs.lemmas.List.{at_drop_more}
use Rattle.std.proofs.lemmas.List.Sums.{sum_by-cons}
use Rattle.logos_pattern.specs.Leaf.{pattern_tree}
use Rattle.logos_positions.specs.Size.{size}
use Rattle.logos_automaton.specs.Measures.{size_of}
use Rattle.logos_graph.specs.View.{rule_of}
use Rattle.logos_graph.specs.View.{rules_of}
use Rattle.logos_graph.proofs.leaves.is_size_within.Goals as goal

pub loop-leaf-preserved : goal.loop-leaf-preserved
loop-leaf-preserved c =
    let v = size (pattern_tree c.leaf-item.result.pattern) in
    let left : size_of (rules_of (drop c.loop-leaf.leaf-index c.args.leaves.now))
    ≡ v + size_of (rules_of (drop (c.loop-leaf.leaf-index + 1) c.args.leaves.now)) =
    at_drop_more (λ ls. size_of (rules_of ls)) c.args.leaves.now c.loop-leaf.leaf-index c.leaf-item.result c.loop-leaf-test.true
    ∙ sum_by-cons (λ rule. size rule.tree) (rule_of (get_or c.args.leaves.now c.loop-leaf.leaf-index c.leaf-item.result)) (rules_of (drop (c.loop-leaf.leaf-index + 1) c.args.leaves.now))
    ∙ ap (λ leaf. size (pattern_tree leaf.pattern) + size_of (rules_of (drop (c.loop-leaf.leaf-index + 1) c.args.leaves.now))) (sym c.leaf-item.is) in (
      c.loop-leaf.invariant.0 + v,
      c.plus-sum.ensures c.loop-leaf.invariant.0 v c.loop-leaf.invariant.1 (rw c.hir.ensures at c.limited_size.ensures),
      omega (arith, left, c.loop-leaf.invariant.2),
    )

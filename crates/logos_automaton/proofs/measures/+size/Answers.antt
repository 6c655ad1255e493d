use Rattle.std.proofs.Common.{◌≡◌, ◌+◌, map, drop, ap, sym, ◌∙◌, arith}
use Rattle.std.proofs.lemmas.List.{at_drop_more}
use Rattle.logos_hir.specs.Tree.{trees}
use Rattle.logos_hir.specs.Hir.{tree_of}
use Rattle.logos_positions.specs.Size.{size, sizes}
use Rattle.logos_automaton.proofs.measures.+size.Goals as goal

pub limited_sizes-loop-hir-preserved : goal.limited_sizes-loop-hir-preserved
limited_sizes-loop-hir-preserved t c =
    let v = size (tree_of c.hir-item.result) in
    let left : sizes (trees (map tree_of (drop c.loop-hir.hir-index c.args.hirs.now)))
    ≡ v + sizes (trees (map tree_of (drop (c.loop-hir.hir-index + 1) c.args.hirs.now))) =
    at_drop_more (λ hs. sizes (trees (map tree_of hs))) c.args.hirs.now c.loop-hir.hir-index c.hir-item.result c.loop-hir-test.true
    ∙ ap (λ h. size (tree_of h) + sizes (trees (map tree_of (drop (c.loop-hir.hir-index + 1) c.args.hirs.now)))) (sym c.hir-item.is) in (
      c.loop-hir.invariant.0 + v,
      c.plus-sum.ensures c.loop-hir.invariant.0 v c.loop-hir.invariant.1 c.limited_size.ensures,
      omega (arith, left, c.loop-hir.invariant.2),
    )

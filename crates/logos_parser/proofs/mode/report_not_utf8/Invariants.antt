use Rattle.std.proofs.Common.{◌≡◌, ◌++◌, true, map, drop}
use Rattle.logos_leaf.specs.LeafViews.{leaf_view}
use Rattle.logos_parser.specs.Utf8Faults.{utf8_faults}
use Rattle.logos_parser.proofs.mode.report_not_utf8.Given as goal

abbrev pub invariant-loop-leaf : goal.invariant-loop-leaf
invariant-loop-leaf l =
    l.errors ++ utf8_faults true (map leaf_view (drop l.leaf-index l.leaves)) ≡ l.fn.errors ++ utf8_faults true (map leaf_view l.leaves)

use Rattle.logos_leaf.specs.LeafViews.{leaf_view}
use Rattle.logos_parser.specs.Utf8Faults.{leaf_faults}
use Rattle.logos_parser.proofs.ModeLemmas.{adds_more}
use Rattle.logos_parser.proofs.mode.report_not_utf8.Goals as goal

pub loop-leaf-preserved : goal.loop-leaf-preserved
loop-leaf-preserved c =
    adds_more leaf_faults leaf_view c.args.leaves.now c.loop-leaf.leaf-index c.leaf-item.result c.loop-leaf.errors c.report_if_not_utf8.new.errors _
    c.loop-leaf-test.true c.leaf-item.is c.in_ok-report_if_not_utf8.ensures c.loop-leaf.invariant

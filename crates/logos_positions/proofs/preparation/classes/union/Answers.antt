use Rattle.logos_positions.proofs.trees.ByteLemmas.{union_more, union_done}
use Rattle.logos_positions.proofs.preparation.classes.union.Goals as goal

pub loop-range-preserved : goal.loop-range-preserved
loop-range-preserved c = λ x.
    union_more c.args.one.now c.args.other.now c.loop-range.range-index _ c.loop-range.ranges.items _ x c.loop-range-test.true (c.loop-range.invariant x) (c.in_ok-add_range.ensures x)

pub returns : goal.returns
returns c = λ x. union_done c.args.one.now c.args.other.now c.loop-range.range-index c.loop-range.ranges.items x c.loop-range-test.false (c.loop-range.invariant x)

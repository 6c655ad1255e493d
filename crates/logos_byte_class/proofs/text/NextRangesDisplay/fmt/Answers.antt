use Rattle.std.proofs.Common.{rules, arith}
use Rattle.std.proofs.Output.{has_written_append, has_written_of_eq}
use Rattle.logos_byte_class.proofs.TextLemmas.{range_added}
use Rattle.logos_byte_class.proofs.text.NextRangesDisplay.fmt.Goals as goal

pub loop-range-preserved : goal.loop-range-preserved
loop-range-preserved g c = λ plain.
    has_written_of_eq _ _ _ _ _
    (range_added c.args.self.now.between.now c.args.self.now.ranges.now c.loop-range.range-index _ _ c.start.result.now c.end.result.now (omega arith) c.start.ensures c.end.ensures)
    (has_written_append _ _ _ _ _ _ (c.loop-range.invariant plain) (search rules))

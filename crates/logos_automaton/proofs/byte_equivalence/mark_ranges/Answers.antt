use Rattle.logos_automaton.proofs.keys.MarkLemmas.{ranges_more}
use Rattle.logos_automaton.proofs.byte_equivalence.mark_ranges.Goals as goal

pub loop-range-preserved : goal.loop-range-preserved
loop-range-preserved c = λ x lt unmarked.
    let m = c.mark_range.ensures x lt unmarked in
    let i = c.loop-range.invariant x lt m.0 in
    (i.0, ranges_more c.args.ranges.now c.loop-range.range-index _ x c.loop-range-test.true i.1 m.1)

use Rattle.std.proofs.Common.{map, arith}
use Rattle.std.proofs.lemmas.List.{length-map}
use Rattle.logos_byte_class.specs.Bytes.{comparison_of, compares}
use Rattle.logos_code.proofs.AlikeLemmas.{any_turn, any_done, mapped_at}
use Rattle.logos_code.proofs.code.byte_runs.comparisons_end.Goals as goal

pub loop-comparison-preserved : goal.loop-comparison-preserved
loop-comparison-preserved c =
    any_turn compares (map comparison_of c.args.comparisons.now) c.loop-comparison.comparison-index (comparison_of c.comparison-item.result) c.args.byte c.args.end c.loop-comparison.until
    c.comparison_end-until.result (rw length-map c.loop-comparison-test.true)
    (mapped_at comparison_of c.args.comparisons.now c.loop-comparison.comparison-index c.comparison-item.result c.loop-comparison-test.true c.comparison-item.is)
    c.comparison_end-until.ensures c.loop-comparison.invariant

pub returns : goal.returns
returns c =
    any_done compares (map comparison_of c.args.comparisons.now) c.loop-comparison.comparison-index c.args.byte c.args.end c.loop-comparison.until
    (rw length-map (omega (arith, c.loop-comparison-test.false))) c.loop-comparison.invariant

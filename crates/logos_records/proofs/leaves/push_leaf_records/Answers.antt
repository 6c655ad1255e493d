use Rattle.std.proofs.Common.{arith}
use Rattle.logos_records.proofs.RecordLemmas.{next_leaf, no_leaf}
use Rattle.logos_records.proofs.leaves.push_leaf_records.Goals as goal

pub loop-number-preserved : goal.loop-number-preserved
loop-number-preserved c = λ new rest. c.loop-number.invariant new (next_leaf c.args.name.now c.args.rows.now c.loop-number.number _ (omega arith) c.push_leaf_record.ensures rest)

pub returns : goal.returns
returns c = c.loop-number.invariant _ (no_leaf c.args.name.now c.args.rows.now c.loop-number.number _ (omega arith))

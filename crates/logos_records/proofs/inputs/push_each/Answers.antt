use Rattle.logos_records.specs.Inputs.{input_lines}
use Rattle.logos_records.proofs.RecordLemmas.{next_input, no_input}
use Rattle.logos_records.proofs.inputs.push_each.Goals as goal

pub loop-input-preserved : goal.loop-input-preserved
loop-input-preserved c = λ new rest.
    c.loop-input.invariant new (next_input (λ input. input.items) input_lines c.args.inputs.now c.loop-input.input-index c.input-item.result c.loop-input-test.true c.input-item.is (rw c.deref.ensures.value at c.push_input_record.ensures) rest)

pub returns : goal.returns
returns c = c.loop-input.invariant _ (no_input (λ input. input.items) input_lines c.args.inputs.now c.loop-input.input-index _ c.loop-input-test.false)

use Rattle.logos_answers.specs.Inputs.{input_line}
use Rattle.logos_answers.proofs.InputLemmas.{next_input, no_input}
use Rattle.logos_answers.proofs.inputs.push_literals.Goals as goal

pub loop-input-preserved : goal.loop-input-preserved
loop-input-preserved c = λ new rest.
    c.loop-input.invariant new (next_input (λ input. input.items) input_line c.args.inputs.now c.loop-input.input-index c.input-item.result c.loop-input-test.true c.input-item.is (rw c.deref.ensures.value at c.push_line.ensures) rest)

pub returns : goal.returns
returns c = c.loop-input.invariant _ (no_input (λ input. input.items) input_line c.args.inputs.now c.loop-input.input-index _ c.loop-input-test.false)

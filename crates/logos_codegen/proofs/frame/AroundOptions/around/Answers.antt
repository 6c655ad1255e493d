use Rattle.logos_codegen.proofs.AroundLemmas.{arounds}
use Rattle.logos_codegen.proofs.frame.AroundOptions.around.Goals as goal

pub returns : goal.returns
returns c =
    arounds (rw c.as_ref.ensures.value at c.run_of.ensures) (rw c.as_ref-2.ensures.value at c.error_run.ensures) (rw c.as_ref-3.ensures.value at c.read_type.ensures) c.run_in.ensures
    c.input_text.ensures

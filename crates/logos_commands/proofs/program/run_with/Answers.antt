use Rattle.logos_commands.proofs.program.run_with.Goals as goal

pub returns-in-Ok-clause-done : goal.returns-in-Ok-clause-done
returns-in-Ok-clause-done g c = rw c.in-Ok.is (rw c.as_slice.ensures.value at c.run.ensures.done)

use Rattle.logos_show.proofs.program.run_with.Goals as goal

pub returns-in-Ok-clause-fulfilled : goal.returns-in-Ok-clause-fulfilled
returns-in-Ok-clause-fulfilled g c = rw c.in-Ok.is (rw c.as_slice.ensures.value at c.run.ensures.fulfilled)

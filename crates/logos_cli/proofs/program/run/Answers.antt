use Rattle.logos_cli.proofs.program.run.Goals as goal

pub returns-in-Ok-Expand-clause-denied : goal.returns-in-Ok-Expand-clause-denied
returns-in-Ok-Expand-clause-denied g c = λ s. rw (c.in-Ok-Expand.ensures.requested, c.in-Ok-Expand.field-0-is) (c.run_order.ensures.denied s)

pub returns-in-Ok-ExpandEach-clause-denied : goal.returns-in-Ok-ExpandEach-clause-denied
returns-in-Ok-ExpandEach-clause-denied g c = λ s. rw (c.in-Ok-ExpandEach.ensures.requested, c.in-Ok-ExpandEach.field-0-is) (c.run_batch.ensures.denied s)

pub returns-in-Ok-Expand-clause-touched : goal.returns-in-Ok-Expand-clause-touched
returns-in-Ok-Expand-clause-touched g c = rw (c.in-Ok-Expand.ensures.requested, c.in-Ok-Expand.field-0-is) c.run_order.ensures.touched

pub returns-in-Ok-ExpandEach-clause-touched : goal.returns-in-Ok-ExpandEach-clause-touched
returns-in-Ok-ExpandEach-clause-touched g c = rw (c.in-Ok-ExpandEach.ensures.requested, c.in-Ok-ExpandEach.field-0-is) c.run_batch.ensures.touched

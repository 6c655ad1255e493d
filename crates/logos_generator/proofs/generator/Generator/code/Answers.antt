use Rattle.std.proofs.lemmas.Result.{IfOk-weaker}
use Rattle.logos_generator.proofs.generator.Generator.code.Goals as goal

pub returns-in-Ok-clause-header : goal.returns-in-Ok-clause-header
returns-in-Ok-clause-header c = IfOk-weaker c.code_of.result _ _ (λ code e. rw e c.in-Ok.ensures) c.code_of.ensures.header

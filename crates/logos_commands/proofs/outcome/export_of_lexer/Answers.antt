use Rattle.logos_commands.proofs.RefusalLemmas.{export_shown}
use Rattle.logos_commands.proofs.outcome.export_of_lexer.Goals as goal

pub returns-in-Err-clause-denied : goal.returns-in-Err-clause-denied
returns-in-Err-clause-denied c = λ s. export_shown _ _ c.in-Err.ensures.failure s

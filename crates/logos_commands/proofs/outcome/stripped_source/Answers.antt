use Rattle.logos_commands.proofs.RefusalLemmas.{faults_shown, unreadable}
use Rattle.logos_commands.specs.Runs.{IsUnreadable}
use Rattle.logos_commands.proofs.outcome.stripped_source.Goals as goal

pub returns-in-Err-clause-denied : goal.returns-in-Err-clause-denied
returns-in-Err-clause-denied c =
    λ s. faults_shown (IsUnreadable c.args.source.now) c.in-Err.refusal c.refused_source.result c.refused_source.ensures.refusal (unreadable _ c.in-Err.refusal c.in-Err.ensures.err) s

use Rattle.logos_codegen.specs.Fronts.{around_made}
use Rattle.logos_codegen.specs.Source.{IsRefused}
use Rattle.logos_graph.specs.View.{rules_of}
use Rattle.logos_commands.proofs.RefusalLemmas.{faults_shown, lexer_refused, part_refused}
use Rattle.logos_commands.proofs.RunLemmas.{part_of}
use Rattle.logos_commands.specs.inside.Destinations.{effect_of}
use Rattle.logos_commands.proofs.outcome.of_source.Goals as goal

pub returns-in-Ok-clause-done : goal.returns-in-Ok-clause-done
returns-in-Ok-clause-done c =
    part_of effect_of c.args.requested c.args.source.now (rules_of c.in-Ok.made.graph.leaves) c.in-Ok.made.graph.utf8 _ _ _ _ (around_made c.in-Ok.made) c.in-Ok.ensures.accepted
    (rw c.shape_of.ensures at c.in-Ok.ensures.given) c.in-Ok.ensures.around c.of_lexer.result c.of_lexer.ensures.part

pub returns-in-Ok-clause-denied : goal.returns-in-Ok-clause-denied
returns-in-Ok-clause-denied c =
    lexer_refused _ _ _ _ _ _ _ c.in-Ok.ensures.given c.of_lexer.result c.of_lexer.ensures.plain c.of_lexer.ensures.export

pub returns-in-Err-clause-denied : goal.returns-in-Err-clause-denied
returns-in-Err-clause-denied c =
    λ s. part_refused _ c.args.requested _ (faults_shown (IsRefused c.args.source.now) c.in-Err.refusal c.refused_source.result c.refused_source.ensures.refusal c.in-Err.ensures.refused s)

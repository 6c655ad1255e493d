use Rattle.logos_causes.proofs.WarnedLemmas.{of_lexer}
use Rattle.logos_causes.proofs.explanation.add_of_lexer.Goals as goal

pub returns : goal.returns
returns c = of_lexer c.args.lexer.graph.now _ _ _ _ c.in_ok-add_error_callback.ensures c.in_ok-add_callbacks.ensures c.in_ok-add_hidden.ensures

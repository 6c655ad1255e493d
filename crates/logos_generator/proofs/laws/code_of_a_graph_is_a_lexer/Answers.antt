use Rattle.logos_generator.proofs.Compose.{is_lexer_of}
use Rattle.logos_generator.proofs.laws.code_of_a_graph_is_a_lexer.Goals as goal

pub returns : goal.returns
returns c = λ graph code longest runs mode uses. is_lexer_of graph code longest runs mode uses

use Rattle.std.proofs.Common.{rules}
use Rattle.logos_lexeme.specs.LexemeCharacters.{is_space}
use Rattle.logos_lexeme.proofs.lexeme.characters.is_space.Goals as goal

pub returns : goal.returns
unfolding is_space
returns c = search rules

use Rattle.std.proofs.Common.{rules}
use Rattle.logos_lexeme.specs.LexemeCharacters.{is_continuing}
use Rattle.logos_lexeme.proofs.lexeme.characters.is_continuing.Goals as goal

pub returns : goal.returns
unfolding is_continuing
returns c = search rules

use Rattle.std.proofs.Common.{rules}
use Rattle.logos_lexeme.specs.LexemeCharacters.{is_start}
use Rattle.logos_lexeme.proofs.lexeme.characters.is_start.Goals as goal

pub returns : goal.returns
unfolding is_start
returns c = search rules

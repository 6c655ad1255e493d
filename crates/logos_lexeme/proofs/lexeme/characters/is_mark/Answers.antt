use Rattle.std.proofs.Common.{rules}
use Rattle.logos_lexeme.specs.LexemeCharacters.{is_mark}
use Rattle.logos_lexeme.proofs.lexeme.characters.is_mark.Goals as goal

pub returns : goal.returns
unfolding is_mark
returns c = search rules

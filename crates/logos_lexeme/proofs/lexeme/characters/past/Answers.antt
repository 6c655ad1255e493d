use Rattle.logos_lexeme.proofs.CharacterLaws.{past-boundary}
use Rattle.logos_lexeme.proofs.lexeme.characters.past.Goals as goal

pub returns-clause-next_boundary : goal.returns-clause-next_boundary
returns-clause-next_boundary c = rw (c.len_utf8.ensures.value, c.char_at.ensures) (past-boundary c.args.source.now c.args.at c.utf8.source c.requires.boundary c.requires.inside)

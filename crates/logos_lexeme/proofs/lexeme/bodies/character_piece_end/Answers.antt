use Rattle.logos_lexeme.specs.LiteralBodies.{escaped}
use Rattle.logos_lexeme.proofs.lexeme.bodies.character_piece_end.Goals as goal

pub returns-then-byte-eq92 : goal.returns-then-byte-eq92
returns-then-byte-eq92 c = escaped c.in_ok-next.ensures

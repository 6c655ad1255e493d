use Rattle.std.proofs.Common.{subst}
use Rattle.std.proofs.lemmas.Bool.{eqb-true, eq-eqb, false≢true}
use Rattle.logos_lexeme.specs.LiteralBodies.{IsCharacterPiece}
use Rattle.logos_lexeme.proofs.BodyLaws.{character-one}
use Rattle.logos_lexeme.proofs.lexeme.bodies.is_character.Goals as goal

pub returns-in-Some : goal.returns-in-Some
returns-in-Some c = (
  λ e. subst (IsCharacterPiece c.args.content c.args.source.now c.args.from) (eqb-true c.in-Some.next c.args.to e) c.in-Some.ensures,
  λ p. eq-eqb c.in-Some.next c.args.to (character-one c.args.content c.args.source.now c.args.from c.in-Some.next c.args.to c.in-Some.ensures p),
)

pub returns-in-None : goal.returns-in-None
returns-in-None c = (λ e. absurd (false≢true e), λ p. absurd (c.in-None.ensures c.args.to p))

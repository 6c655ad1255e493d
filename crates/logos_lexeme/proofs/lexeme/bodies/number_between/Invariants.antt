use Rattle.logos_lexeme.specs.LiteralBodies.{digits_between}
use Rattle.logos_lexeme.specs.inside.LiteralReads.{HasRead}
use Rattle.logos_lexeme.proofs.lexeme.bodies.number_between.Given as goal

abbrev pub invariant-loop-at : goal.invariant-loop-at
invariant-loop-at l = HasRead (digits_between l.source l.from l.at) l.digits.count l.digits.value

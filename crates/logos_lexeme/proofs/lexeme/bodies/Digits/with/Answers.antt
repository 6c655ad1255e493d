use Rattle.std.proofs.Common.{arith}
use Rattle.logos_lexeme.proofs.BodyLaws.{small_value}
use Rattle.logos_lexeme.proofs.lexeme.bodies.Digits.with.Goals as goal

pub overflow_mul-value : goal.overflow_mul-value
overflow_mul-value c = omega (arith, small_value c.args.self.count c.args.self.value c.if-self-ge6.false c.requires.small)

pub overflow_add-value : goal.overflow_add-value
overflow_add-value c = omega (arith, small_value c.args.self.count c.args.self.value c.if-self-ge6.false c.requires.small, c.in-Some.ensures.2)

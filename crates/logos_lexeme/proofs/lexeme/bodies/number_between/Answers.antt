use Rattle.std.proofs.Common.{arith}
use Rattle.logos_lexeme.proofs.BodyLaws.{HasRead-more, too_many}
use Rattle.logos_lexeme.proofs.lexeme.bodies.number_between.Goals as goal

pub returns-in_err-digits : goal.returns-in_err-digits
returns-in_err-digits c =
    let e = rw c.byte_at.ensures at c.in_err-digits.ensures in
    rw c.from_residual.ensures (too_many c.args.source.now c.args.from c.loop-at.at c.args.to _ _ c.loop-at.auto.at c.loop-at-test.true c.requires.within c.loop-at.invariant e.0 e.1)

pub loop-at-preserved : goal.loop-at-preserved
loop-at-preserved c =
    let e = rw c.byte_at.ensures at c.in_ok-digits.ensures in
    HasRead-more c.args.source.now c.args.from c.loop-at.at c.loop-at.auto.at (omega arith) _ _ _ _ c.loop-at.invariant e

use Rattle.std.proofs.Common.{subst, arith}
use Rattle.std.proofs.lemmas.Bool.{eqb-true, eq-eqb}
use Rattle.logos_lexeme.specs.LexemeRuns.{Steps, here, step}
use Rattle.logos_lexeme.specs.LiteralBodies.{IsPiece}
use Rattle.logos_lexeme.specs.LiteralBodies.{bytes_of}
use Rattle.logos_lexeme.proofs.RunLaws.{Steps-on, Steps-le}
use Rattle.logos_lexeme.proofs.BodyLaws.{piece-one, piece-moves}
use Rattle.logos_lexeme.proofs.lexeme.bodies.is_body.Goals as goal

pub loop-at-preserved : goal.loop-at-preserved
loop-at-preserved c =
    let piece : IsPiece c.args.escapes c.args.content c.args.source.now c.loop-at.at c.in-Some.next = (bytes_of c.in-Some.field-0-0, c.in-Some.ensures) in
    record {
      on = λ s. c.loop-at.invariant.on (step piece s);
      back = λ s. Steps-on (IsPiece c.args.escapes c.args.content c.args.source.now) (piece-one c.args.escapes c.args.content c.args.source.now) piece c.loop-at-test.true (c.loop-at.invariant.back s);
    }

pub returns : goal.returns
returns c = (
  λ e. c.loop-at.invariant.on (subst (λ to. Steps (IsPiece c.args.escapes c.args.content c.args.source.now) c.loop-at.at to) (eqb-true c.loop-at.at c.args.to e) here),
  λ s. eq-eqb c.loop-at.at c.args.to (let l = Steps-le (IsPiece c.args.escapes c.args.content c.args.source.now) (piece-moves c.args.escapes c.args.content c.args.source.now) (c.loop-at.invariant.back s) in let m = c.loop-at-test.false in omega arith),
)

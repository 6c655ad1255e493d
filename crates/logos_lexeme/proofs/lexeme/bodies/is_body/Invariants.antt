use Rattle.std.proofs.Common.{◌-◌}
use Rattle.logos_lexeme.specs.LexemeRuns.{Steps}
use Rattle.logos_lexeme.specs.LiteralBodies.{IsPiece}
use Rattle.logos_lexeme.proofs.lexeme.bodies.is_body.Given as goal

abbrev pub invariant-loop-at : goal.invariant-loop-at
invariant-loop-at l = record {
  on : Steps (IsPiece l.escapes l.content l.source) l.at l.to → Steps (IsPiece l.escapes l.content l.source) l.from l.to;
  back : Steps (IsPiece l.escapes l.content l.source) l.from l.to → Steps (IsPiece l.escapes l.content l.source) l.at l.to;
}

abbrev pub decreases-loop-at : goal.decreases-loop-at
decreases-loop-at l = l.to - l.at

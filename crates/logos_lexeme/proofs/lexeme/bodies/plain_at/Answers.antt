use Rattle.std.proofs.Common.{refl, sym, ◌∙◌}
use Rattle.logos_lexeme.specs.inside.LiteralReads.{itself, break}
use Rattle.logos_lexeme.proofs.lexeme.bodies.plain_at.Goals as goal

pub returns-then-is_allowed : goal.returns-then-is_allowed
returns-then-is_allowed c = rw c.byte_at-byte.ensures (itself (rw c.byte_at-byte.ensures at (c.if-is_allowed.ensures.0 refl)) refl)

pub returns-then-byte_at-eq10 : goal.returns-then-byte_at-eq10
returns-then-byte_at-eq10 c = break (sym c.byte_at-byte.ensures ∙ c.if-byte-eq13.true, sym c.byte_at.ensures ∙ c.if-byte_at-eq10.true, refl)

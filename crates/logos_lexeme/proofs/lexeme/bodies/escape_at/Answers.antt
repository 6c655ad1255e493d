use Rattle.std.proofs.Common.{refl, sym, ◌∙◌, ap}
use Rattle.logos_lexeme.specs.LiteralBodies.{is_simple, simple, hex, unicode}
use Rattle.logos_lexeme.proofs.BodyLaws.{no_hex, no_unicode}
use Rattle.logos_lexeme.proofs.lexeme.bodies.escape_at.Goals as goal

pub returns-then-is_simple : goal.returns-then-is_simple
returns-then-is_simple c = rw (c.simple_value.ensures, c.byte_at-letter.ensures)
    (simple (sym c.byte_at.ensures ∙ c.if-byte_at-ne92.false) (ap is_simple (sym c.byte_at-letter.ensures) ∙ sym c.if-is_simple.ensures) refl)

pub returns-in_err-byte : goal.returns-in_err-byte
returns-in_err-byte c = rw c.from_residual.ensures (no_hex c.args.content c.args.source.now c.args.at (sym c.byte_at-letter.ensures ∙ c.if-letter-eq120.true) c.in_err-byte.ensures)

pub returns-then-letter-eq120 : goal.returns-then-letter-eq120
returns-then-letter-eq120 c = rw c.in_ok-byte.ensures.1 (hex c.in_ok-byte.ensures.0 refl)

pub returns-in_err-character : goal.returns-in_err-character
returns-in_err-character c = rw c.from_residual-in_err-character.ensures (no_unicode c.args.content c.args.source.now c.args.at (sym c.byte_at-letter.ensures ∙ c.if-letter-eq117.true) c.in_err-character.ensures)

pub returns-then-letter-eq117 : goal.returns-then-letter-eq117
returns-then-letter-eq117 c = rw c.in_ok-character.ensures.1 (unicode c.in_default.not-Bytes c.in_ok-character.ensures.0 refl)

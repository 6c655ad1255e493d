use Rattle.std.proofs.Common.{sym, ◌∙◌, refl}
use Rattle.std.proofs.lemmas.Bool.{false≢true}
use Rattle.logos_lexeme.specs.LiteralBodies.{continuation}
use Rattle.logos_lexeme.proofs.BodyLaws.{holds_at_backslash, holds_at_other}
use Rattle.logos_lexeme.proofs.lexeme.bodies.piece_at.Goals as goal

pub returns-then-not-escapes : goal.returns-then-not-escapes
returns-then-not-escapes c = holds_at_other c.args.content c.args.source.now c.args.at c.args.escapes c.plain_at.result (λ t. absurd (false≢true (sym c.if-not-escapes.true ∙ t))) c.plain_at.ensures

pub returns-then-byte_at-ne92 : goal.returns-then-byte_at-ne92
returns-then-byte_at-ne92 c = holds_at_other c.args.content c.args.source.now c.args.at c.args.escapes c.plain_at-then-byte_at-ne92.result (λ _ e. c.if-byte_at-ne92.true (c.byte_at.ensures ∙ e)) c.plain_at-then-byte_at-ne92.ensures

pub returns-then-breaks_line : goal.returns-then-breaks_line
returns-then-breaks_line c = continuation c.if-not-escapes.false (record { backslash = sym c.byte_at.ensures ∙ c.if-byte_at-ne92.false; breaks = c.if-breaks_line.ensures.0 refl; blanks = c.blanks_end.ensures })

pub returns : goal.returns
returns c = holds_at_backslash c.args.content c.args.source.now c.args.at c.args.escapes c.escape_at.result c.if-not-escapes.false (sym c.byte_at.ensures ∙ c.if-byte_at-ne92.false)
    (λ b. false≢true (c.if-breaks_line.ensures.1 b)) c.escape_at.ensures

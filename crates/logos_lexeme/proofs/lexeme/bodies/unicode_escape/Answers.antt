use Rattle.std.proofs.Common.{◌∙◌}
use Rattle.logos_lexeme.proofs.BodyLaws.{no_brace}
use Rattle.logos_lexeme.proofs.lexeme.bodies.unicode_escape.Goals as goal

pub returns-then-byte_at-ne125 : goal.returns-then-byte_at-ne125
returns-then-byte_at-ne125 c = no_brace c.args.source.now c.args.at c.digits_end-brace.result c.digits_end-brace.ensures.first (λ e. c.if-byte_at-ne125.true (c.byte_at-3.ensures ∙ e))

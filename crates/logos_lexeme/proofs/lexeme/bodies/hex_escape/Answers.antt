use Rattle.logos_lexeme.proofs.BodyLaws.{hex-written}
use Rattle.logos_lexeme.proofs.lexeme.bodies.hex_escape.Goals as goal

pub returns : goal.returns
returns c = hex-written c.args.content c.args.source.now c.args.at c.requires.backslash c.requires.letter c.byte_at.result c.byte_at-2.result c.in_ok-first.first c.in_ok-second.second c.greatest_of.result
    c.byte_at.ensures c.byte_at-2.ensures c.in_ok-first.ensures.0 c.in_ok-first.ensures.1 c.in_ok-second.ensures.0 c.in_ok-second.ensures.1 c.greatest_of.ensures c.if-value-greatest_of.false

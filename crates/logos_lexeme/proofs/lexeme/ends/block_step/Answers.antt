use Rattle.std.proofs.Common.{sym, ◌∙◌}
use Rattle.logos_lexeme.proofs.EndLaws.{onward-opens, onward-closes, onward-inside, no_pair}
use Rattle.logos_lexeme.proofs.lexeme.ends.block_step.Goals as goal

pub returns-then-second-eq42 : goal.returns-then-second-eq42
returns-then-second-eq42 c = onward-opens c.args.source.now c.args.depth c.args.at c.requires.open c.requires.shallow
    (sym c.byte_at-first.ensures ∙ c.if-first-eq47.true, sym c.byte_at-second.ensures ∙ c.if-second-eq42.true)

pub returns-then-second-eq47 : goal.returns-then-second-eq47
returns-then-second-eq47 c = onward-closes c.args.source.now c.args.depth c.args.at c.requires.open c.requires.shallow
    (sym c.byte_at-first.ensures ∙ c.if-first-eq42.true, sym c.byte_at-second.ensures ∙ c.if-second-eq47.true)

pub returns : goal.returns
returns c = onward-inside c.args.source.now c.args.depth c.args.at c.requires.open c.requires.shallow c.if-at-source.false
    (no_pair c.args.source.now c.args.at 47 42 (rw (c.byte_at-first.ensures, c.byte_at-second.ensures) at c.else-first-eq47.either))
    (no_pair c.args.source.now c.args.at 42 47 (rw (c.byte_at-first.ensures, c.byte_at-second.ensures) at c.else-first-eq42.either))

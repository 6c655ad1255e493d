use Rattle.std.proofs.Common.{◌+◌, arith}
use Rattle.logos_lexeme.specs.LexemeOpenings.{prefix_of}
use Rattle.logos_lexeme.specs.LexemeEnds.{IsQuoted}
use Rattle.logos_lexeme.proofs.EndLaws.{IsQuoted-after}
use Rattle.logos_lexeme.proofs.lexeme.bodies.is_sound.Goals as goal

pub is_character-requires : goal.is_character-requires
is_character-requires c =
    let quoted : IsQuoted 39 c.args.source.now (c.args.from + prefix_of c.in-Apostrophes.content + 1) c.args.end = rw c.in-Apostrophes.is at c.requires.ends in
    omega (arith, IsQuoted-after 39 c.args.source.now (c.args.from + prefix_of c.in-Apostrophes.content + 1) c.args.end quoted, c.prefix_of-in-Apostrophes.ensures, c.requires.within)

pub returns-in-Apostrophes : goal.returns-in-Apostrophes
returns-in-Apostrophes c = rw (c.in-Apostrophes.is, ← c.prefix_of-in-Apostrophes.ensures) c.is_character.ensures

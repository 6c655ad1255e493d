use Rattle.std.proofs.Common.{◌∙◌, chars, drop}
use Rattle.std.proofs.lemmas.Option.{unwrap_or-slice_get}
use Rattle.logos_lexeme.specs.LexemeCharacters.{character}
use Rattle.logos_lexeme.proofs.lexeme.characters.char_at.Goals as goal

pub returns : goal.returns
unfolding character
returns c =
    let v = c.range_from.ensures.value in
    let r = c.chars.ensures.rest in
    let s = c.next.ensures.steps.2 in
    let u = unwrap_or-slice_get (chars (drop c.args.at c.args.source.now)) 0 0 in
    c.unwrap_or.ensures ∙ rw (s, r, v) u

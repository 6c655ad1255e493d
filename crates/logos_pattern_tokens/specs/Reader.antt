-- Whole tokens outside brackets, read from the front.
use Rattle.std.specs.Prelude.{◌==◌, [], ◌∷◌, Option, Some, None, option_map, if◌then◌else◌}
use Rattle.logos_pattern_tokens.specs.declared.token.Atom.TheVariants.{Character, Dot, Caret, Dollar}
use Rattle.logos_pattern_tokens.specs.Token.{Text, Token, atom, bar, closes, lazy_at, count_at}
use Rattle.logos_pattern_tokens.specs.Escapes.{escape_at}
use Rattle.logos_pattern_tokens.specs.Openings.{group_at}

-- The token of the escape after a backslash.
unfoldable pub escape_token_at : Text → Option (Token × Text)
escape_token_at text = option_map (λ x. (atom x.0, x.1)) (escape_at text)

-- The token at the front and the rest of the text. There is no such token at a `[`.
unfoldable pub token_at : Text → Option (Token × Text)
token_at [] = None
token_at (c ∷ rest) =
    if c == 124 then Some (bar, rest)
    else if c == 40 then group_at rest
    else if c == 41 then Some (closes, rest)
    else if c == 42 then Some (lazy_at 0 None rest)
    else if c == 43 then Some (lazy_at 1 None rest)
    else if c == 63 then Some (lazy_at 0 (Some 1) rest)
    else if c == 123 then count_at rest
    else if c == 92 then escape_token_at rest
    else if c == 46 then Some (atom Dot, rest)
    else if c == 94 then Some (atom Caret, rest)
    else if c == 36 then Some (atom Dollar, rest)
    else if c == 91 then None
    else Some (atom (Character c), rest)

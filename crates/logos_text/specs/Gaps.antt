-- The gap between printed tokens and the token that follows them.
use Rattle.std.specs.Prelude.{ℕ, List, [], ◌∷◌, codes, if◌then◌else◌}
use Rattle.logos_token.specs.Printing.{is_line_comment}
use Rattle.logos_token.specs.Tokens.{Token, identifier, punctuation, literal, doc, group, TokenList, none, also}

-- The gap after one token: a line end after a comment that ends with its line, otherwise a space.
abbrev pub gap_of : Token → List ℕ
gap_of (identifier text span) = codes " "
gap_of (punctuation character spacing span) = codes " "
gap_of (literal text span) = codes " "
gap_of (doc text span) = if is_line_comment text then 10 ∷ [] else codes " "
gap_of (group delimiter span inside) = codes " "

-- The gap after a run: that after its last token, or the given one if the run is empty.
abbrev pub gap_after : List ℕ → TokenList → List ℕ
gap_after gap none = gap
gap_after gap (also token rest) = gap_after (gap_of token) rest

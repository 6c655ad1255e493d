-- Invariants that hold while an argument is split.
use Rattle.std.specs.Prelude.{List, ◌∷◌, if◌then◌else◌}
use Rattle.logos_token.specs.Tokens.{Token, TokenList, none, also}
use Rattle.logos_token.specs.Punctuation.{is_alone}
use Rattle.logos_attribute.specs.Slices.{Slice}
use Rattle.logos_attribute.specs.Pieces.{comma, equals, assigned, Piece, unnamed, named, name_token, pieces, up_to_comma, through_comma}

-- The first token of any kind, and the tokens after it up to the next lone comma.
abbrev pub first_run : TokenList → TokenList
first_run none = none
first_run (also token rest) = also token (up_to_comma rest)

-- The pieces after a name and a token that is not a name, literal or group.
abbrev pub after_mark : Slice → Token → TokenList → List Piece
after_mark name token rest =
    if is_alone equals token then through_comma (λ run. named name (assigned run)) rest
    else (if is_alone comma token then unnamed (also (name_token name) none) ∷ pieces rest
    else through_comma (λ run. unnamed (also (name_token name) (also token run))) rest)

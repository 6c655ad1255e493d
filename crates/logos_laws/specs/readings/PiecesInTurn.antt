-- The pieces of an attribute's argument, one after another: the first piece of a run, and then the
-- pieces of the tokens after it.
use Rattle.std.specs.Prelude.{◌≡◌, ◌||◌, if◌then◌else◌, Bool, true, false, List, [], ◌∷◌}
use Rattle.logos_lexeme.specs.declared.lexeme.Span.{Span}
use Rattle.logos_lexeme.specs.declared.lexeme.Delimiter.{Delimiter}
use Rattle.logos_token.specs.Tokens.{Token, TokenList, identifier, literal, group, none, also, rest_of}
use Rattle.logos_token.specs.Punctuation.{is_alone}
use Rattle.logos_attribute.specs.Pieces.{Piece, unnamed, named, unexpected, assigned, beside, grouped, keyed, comma, equals, name_token, up_to_comma, after_comma, rest_after_piece}
use Rattle.logos_attribute.specs.Slices.{Slice}

-- The run begins with a lone `=`.
abbrev pub begins_assigned : TokenList → Bool
begins_assigned none = false
begins_assigned (also token rest) = is_alone equals token

-- The run begins with a lone comma, or is empty.
abbrev pub begins_end : TokenList → Bool
begins_end none = true
begins_end (also token rest) = is_alone comma token

-- The piece that begins with two names. A comma, or the end of the run, counts as the `=`.
abbrev pub keyed_piece : Slice → Slice → TokenList → Piece
keyed_piece keyword name rest =
    if begins_assigned rest || begins_end rest then named keyword (keyed name (up_to_comma (rest_of rest)))
    else unexpected (up_to_comma rest)

-- The piece that begins with a name.
abbrev pub named_piece : Slice → TokenList → Piece
named_piece name (also (literal text span) rest) = named name (beside (record { text = text; span = span }))
named_piece name (also (group delimiter span inside) rest) = named name (grouped inside)
named_piece name (also (identifier text span) rest) = keyed_piece name (record { text = text; span = span }) rest
named_piece name rest =
    if begins_assigned rest then named name (assigned (up_to_comma (rest_of rest)))
    else unnamed (also (name_token name) (up_to_comma rest))

-- The piece that begins with this token.
abbrev pub first_piece : Token → TokenList → Piece
first_piece (identifier text span) rest = named_piece (record { text = text; span = span }) rest
first_piece token rest = unnamed (also token (up_to_comma rest))

-- The piece that begins with this token is a name and a group.
abbrev pub ends_in_group : Token → TokenList → Bool
ends_in_group (identifier text span) (also (group delimiter at inside) rest) = true
ends_in_group token rest = false

mutual
  -- The pieces of a run, in order. After a piece its comma is left out, and the next one begins.
  pub data ArePieces : TokenList → List Piece → Type 0 where
    no_piece : ArePieces none []
    one_more : {first : Token} {rest : TokenList} {others : List Piece} → ends_in_group first rest ≡ false →
        ArePieces (rest_after_piece (also first rest)) others → ArePieces (also first rest) (first_piece first rest ∷ others)
    with_group : {name : Slice} {delimiter : Delimiter} {span : Span} {inside rest : TokenList} {others : List Piece} →
        AreAfterGroup rest others → ArePieces (also (name_token name) (also (group delimiter span inside) rest)) (named name (grouped inside) ∷ others)

  -- The pieces of a run after a name and a group: tokens before the comma are a separate piece.
  pub data AreAfterGroup : TokenList → List Piece → Type 0 where
    at_end : AreAfterGroup none []
    at_comma : {token : Token} {rest : TokenList} {others : List Piece} → is_alone comma token ≡ true → ArePieces rest others → AreAfterGroup (also token rest) others
    at_other : {token : Token} {rest : TokenList} {others : List Piece} → is_alone comma token ≡ false →
        ArePieces (after_comma rest) others → AreAfterGroup (also token rest) (unexpected (also token (up_to_comma rest)) ∷ others)

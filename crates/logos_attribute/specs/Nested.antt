-- The pieces that views of an attribute's argument represent.
use Rattle.std.specs.Prelude.{◌≡◌, List, ◌∷◌, Option, MatchOption, if◌then◌else◌}
use Rattle.std.specs.Iterator.{YieldsFirstBy}
use Rattle.logos_token.specs.Tokens.{TokenList, also}
use Rattle.logos_token.specs.Views.{tokens_of, tree_of}
use Rattle.logos_token.specs.declared.token.views.Tokens.{Tokens}
use Rattle.logos_token.specs.declared.token.views.TokenTree.{TokenTree}
use Rattle.logos_attribute.specs.declared.nested.NestedValue.{NestedValue}
use Rattle.logos_attribute.specs.declared.nested.NestedValue.TheVariants.{Assign, Literal, Group, KeywordAssign}
use Rattle.logos_attribute.specs.declared.nested.Nested.{Nested}
use Rattle.logos_attribute.specs.declared.nested.Nested.TheVariants.{Unnamed, Named, Unexpected}
use Rattle.logos_attribute.specs.declared.nested.AttributeParser.{AttributeParser}
use Rattle.logos_attribute.specs.Slices.{ident_slice, literal_slice}
use Rattle.logos_attribute.specs.Pieces.{PieceValue, assigned, beside, grouped, keyed, Piece, unnamed, named, unexpected, pieces, after_group, rest_after_piece, rest_after_group}

-- The value of a piece that a view represents.
abbrev pub value_of : NestedValue → PieceValue
value_of (Assign run) = assigned (tokens_of run)
value_of (Literal literal) = beside (literal_slice literal)
value_of (Group run) = grouped (tokens_of run)
value_of (KeywordAssign name run) = keyed (ident_slice name) (tokens_of run)

-- The piece that a view represents.
abbrev pub piece_of : Nested → Piece
piece_of (Unnamed run) = unnamed (tokens_of run)
piece_of (Named name value) = named (ident_slice name) (value_of value)
piece_of (Unexpected run) = unexpected (tokens_of run)

-- The pieces that have not been read.
abbrev pub pieces_left : AttributeParser → List Piece
pieces_left parser = if parser.after_group then after_group (tokens_of parser.rest) else pieces (tokens_of parser.rest)

-- The tokens after the next piece.
abbrev pub rest_after : AttributeParser → TokenList
rest_after parser = if parser.after_group then rest_after_group (tokens_of parser.rest) else rest_after_piece (tokens_of parser.rest)

-- The parser returns the next of its pieces and removes the comma that ends it; or it has no piece,
-- and nothing changes.
abbrev pub YieldsNext : AttributeParser → Option Nested → AttributeParser → Type 0
YieldsNext old given new = YieldsFirstBy piece_of pieces_left old given new × MatchOption given (new ≡ old) (λ _. tokens_of new.rest ≡ rest_after old)

-- The pieces are `piece` and those that the parser has not read; `rest` are the tokens left to it.
abbrev pub Cuts : List Piece → TokenList → Nested → AttributeParser → Type 0
Cuts pieces rest piece parser = (pieces ≡ piece_of piece ∷ pieces_left parser) × (tokens_of parser.rest ≡ rest)

-- A run consists of a tree and the trees after it.
abbrev pub IsSplit : Tokens → TokenTree → Tokens → Type 0
IsSplit run first rest = tokens_of run ≡ also (tree_of first) (tokens_of rest)

-- The pieces of an attribute's argument: runs of tokens between lone commas, classified by their
-- form.
use Rattle.std.specs.Prelude.{ℕ, List, [], ◌∷◌, if◌then◌else◌}
use Rattle.logos_token.specs.Tokens.{Token, TokenList, identifier, literal, group, none, also, rest_of}
use Rattle.logos_token.specs.Punctuation.{is_alone}
use Rattle.logos_attribute.specs.Slices.{Slice}

-- The character `,`.
abbrev pub comma : ℕ
comma = 44

-- The character `=`.
abbrev pub equals : ℕ
equals = 61

-- The tokens after a name.
pub data PieceValue : Type 0 where
  -- `= run`
  assigned : (run : TokenList) → PieceValue
  -- A literal.
  beside : (text : Slice) → PieceValue
  -- A group with this run inside.
  grouped : (run : TokenList) → PieceValue
  -- A second name, and `= run`.
  keyed : (name : Slice) (run : TokenList) → PieceValue

-- A piece of an attribute's argument.
pub data Piece : Type 0 where
  unnamed : (run : TokenList) → Piece
  named : (name : Slice) (value : PieceValue) → Piece
  unexpected : (run : TokenList) → Piece

-- The tokens before the first lone comma.
abbrev pub up_to_comma : TokenList → TokenList
up_to_comma none = none
up_to_comma (also token rest) = if is_alone comma token then none else also token (up_to_comma rest)

-- The tokens after the first lone comma.
abbrev pub after_comma : TokenList → TokenList
after_comma none = none
after_comma (also token rest) = if is_alone comma token then rest else after_comma rest

-- A name as a token.
abbrev pub name_token : Slice → Token
name_token name = identifier name.text name.span

abbrev mutual
  -- All pieces of a run. The first token belongs to the first piece, even if it is a comma.
  pub pieces : TokenList → List Piece
  pieces none = []
  pieces (also (identifier text span) rest) = after_name (record { text = text; span = span }) rest
  pieces (also token rest) = through_comma (λ run. unnamed (also token run)) rest

  -- The pieces after a name. Tokens between a literal and the comma are skipped.
  pub after_name : Slice → TokenList → List Piece
  after_name name none = unnamed (also (name_token name) none) ∷ []
  after_name name (also (literal text span) rest) = through_comma (λ run. named name (beside (record { text = text; span = span }))) rest
  after_name name (also (group delimiter span inside) rest) = named name (grouped inside) ∷ after_group rest
  after_name name (also (identifier text span) rest) = after_keyword name (record { text = text; span = span }) rest
  after_name name (also token rest) =
      if is_alone equals token then through_comma (λ run. named name (assigned run)) rest
      else (if is_alone comma token then unnamed (also (name_token name) none) ∷ pieces rest
      else through_comma (λ run. unnamed (also (name_token name) (also token run))) rest)

  -- The pieces after a name and a group. Tokens other than a comma are a piece of their own.
  pub after_group : TokenList → List Piece
  after_group none = []
  after_group (also token rest) =
      if is_alone comma token then pieces rest
      else through_comma (λ run. unexpected (also token run)) rest

  -- The pieces after two names. `=` is expected; a comma in its place, or the end, counts as `=`.
  pub after_keyword : Slice → Slice → TokenList → List Piece
  after_keyword keyword name none = named keyword (keyed name none) ∷ []
  after_keyword keyword name (also token rest) =
      if is_alone equals token then through_comma (λ run. named keyword (keyed name run)) rest
      else (if is_alone comma token then through_comma (λ run. named keyword (keyed name run)) rest
      else through_comma (λ run. unexpected (also token run)) rest)

  -- A piece that consists of the tokens up to the next lone comma, and the pieces after that comma.
  pub through_comma : (TokenList → Piece) → TokenList → List Piece
  through_comma piece none = piece none ∷ []
  through_comma piece (also token rest) =
      if is_alone comma token then piece none ∷ pieces rest
      else through_comma (λ run. piece (also token run)) rest

-- The tokens without the lone comma at the front, if there is one.
abbrev pub without_comma : TokenList → TokenList
without_comma none = none
without_comma (also token rest) = if is_alone comma token then rest else also token rest

-- The tokens after a piece that begins with a name: those after the comma that ends the piece.
-- After a group that is the lone comma that follows directly, if there is one. A comma in place of
-- `=` after two names does not end the piece. `rest` follows the name.
abbrev pub rest_after_name : TokenList → TokenList
rest_after_name none = none
rest_after_name (also (group delimiter span inside) rest) = without_comma rest
rest_after_name (also (identifier text span) rest) = after_comma (rest_of rest)
rest_after_name (also token rest) = after_comma (also token rest)

-- The tokens after the first piece: those after the comma that ends it. A comma that is its first
-- token does not end it.
abbrev pub rest_after_piece : TokenList → TokenList
rest_after_piece none = none
rest_after_piece (also (identifier text span) rest) = rest_after_name rest
rest_after_piece (also token rest) = after_comma rest

-- The tokens after the first piece, if that piece follows a name and a group.
abbrev pub rest_after_group : TokenList → TokenList
rest_after_group none = none
rest_after_group (also token rest) = if is_alone comma token then rest_after_piece rest else after_comma rest

-- The tokens that a source spells: the source is a sequence of pieces, and the lexemes of the
-- pieces are those of the tokens.
use Rattle.std.specs.Prelude.{◌≡◌, ℕ, ◌+◌, ◌-◌, ◌<◌, ◌≤◌, max, Bool, true, false, List, [], ◌∷◌, ◌++◌, length, slice_index, slice_range, Option, Some, None, if◌then◌else◌}
use Rattle.logos_lexeme.specs.declared.lexeme.Span.{Span}
use Rattle.logos_lexeme.specs.declared.lexeme.Delimiter.{Delimiter}
use Rattle.logos_lexeme.specs.declared.lexeme.Delimiter.TheVariants.{Parenthesis, Bracket, Brace}
use Rattle.logos_lexeme.specs.declared.lexeme.LexemeKind.{LexemeKind}
use Rattle.logos_lexeme.specs.declared.lexeme.LexemeKind.TheVariants.{Gap, Identifier, Literal, Doc, Punctuation, Opening, Closing}
use Rattle.logos_lexeme.specs.declared.lexeme.LexicalKind.{LexicalKind}
use Rattle.logos_lexeme.specs.declared.lexeme.LexicalKind.TheVariants.{Unbalanced}
use Rattle.logos_token.specs.Tokens.{Token, identifier, punctuation, literal, doc, group, TokenList, none, also, span_of}
use Rattle.logos_lexeme.specs.Lexemes.{IsNext, IsStuck}

-- A piece of a source.
pub record Piece : Type 0 where
  pub kind : LexemeKind
  pub span : Span

-- The source from one byte offset to another is these pieces, in order.
abbrev pub Pieces : List ℕ → ℕ → List Piece → ℕ → Type 0
Pieces bytes from [] to = from ≡ to
Pieces bytes from (piece ∷ rest) to = (piece.span.from ≡ from) × IsNext bytes from piece.kind piece.span.to × Pieces bytes piece.span.to rest to

-- A token that is not a group, or the beginning or the end of a group.
pub data Lexeme : Type 0 where
  leaf : (token : Token) → Lexeme
  opens : (delimiter : Delimiter) (from : ℕ) → Lexeme
  closes : (delimiter : Delimiter) (to : ℕ) → Lexeme

-- The lexeme of a piece of this kind; a gap has none.
abbrev pub lexeme_of : List ℕ → LexemeKind → Span → List Lexeme
lexeme_of bytes Gap span = []
lexeme_of bytes Identifier span = leaf (identifier (slice_range bytes span.from span.to) span) ∷ []
lexeme_of bytes Literal span = leaf (literal (slice_range bytes span.from span.to) span) ∷ []
lexeme_of bytes Doc span = leaf (doc (slice_range bytes span.from span.to) span) ∷ []
lexeme_of bytes (Punctuation spacing) span = leaf (punctuation (slice_index bytes span.from) spacing span) ∷ []
lexeme_of bytes (Opening delimiter) span = opens delimiter span.from ∷ []
lexeme_of bytes (Closing delimiter) span = closes delimiter span.to ∷ []

-- The lexemes of pieces.
abbrev pub seen : List ℕ → List Piece → List Lexeme
seen bytes [] = []
seen bytes (piece ∷ rest) = lexeme_of bytes piece.kind piece.span ++ seen bytes rest

abbrev mutual
  -- The lexemes of a token.
  pub token_lexemes : Token → List Lexeme
  token_lexemes (identifier text span) = leaf (identifier text span) ∷ []
  token_lexemes (punctuation character spacing span) = leaf (punctuation character spacing span) ∷ []
  token_lexemes (literal text span) = leaf (literal text span) ∷ []
  token_lexemes (doc text span) = leaf (doc text span) ∷ []
  token_lexemes (group delimiter span inside) = opens delimiter span.from ∷ (lexemes inside ++ closes delimiter span.to ∷ [])

  -- The lexemes of a run.
  pub lexemes : TokenList → List Lexeme
  lexemes none = []
  lexemes (also token rest) = token_lexemes token ++ lexemes rest

-- The source spells these tokens: it is a sequence of pieces, and their lexemes are the lexemes of
-- the tokens.
pub record Spells (bytes : List ℕ) (tokens : TokenList) : Type 0 where
  pub pieces : List Piece
  pub filled : Pieces bytes 0 pieces (length bytes)
  pub nested : lexemes tokens ≡ seen bytes pieces

abbrev mutual
  -- A token occurs at or after a byte offset: it is not empty, its text is the source at its span,
  -- and the tokens inside a group are between its delimiters.
  pub TokenOccurs : List ℕ → ℕ → Token → Type 0
  TokenOccurs bytes from (identifier text span) = (from ≤ span.from) × (span.from < span.to) × (text ≡ slice_range bytes span.from span.to)
  TokenOccurs bytes from (punctuation character spacing span) = (from ≤ span.from) × (span.from < span.to) × (character ≡ slice_index bytes span.from)
  TokenOccurs bytes from (literal text span) = (from ≤ span.from) × (span.from < span.to) × (text ≡ slice_range bytes span.from span.to)
  TokenOccurs bytes from (doc text span) = (from ≤ span.from) × (span.from < span.to) × (text ≡ slice_range bytes span.from span.to)
  TokenOccurs bytes from (group delimiter span inside) = (from ≤ span.from) × (span.from < span.to) × RunOccurs bytes (span.from + 1) inside (span.to - 1)

  -- The tokens of a run are between these byte offsets, in order.
  pub RunOccurs : List ℕ → ℕ → TokenList → ℕ → Type 0
  RunOccurs bytes from none to = from ≤ to
  RunOccurs bytes from (also token rest) to = TokenOccurs bytes from token × RunOccurs bytes (span_of token).to rest to

-- Whether the second delimiter closes the first.
abbrev pub is_partner : Delimiter → Delimiter → Bool
is_partner Parenthesis Parenthesis = true
is_partner Bracket Bracket = true
is_partner Brace Brace = true
is_partner Parenthesis Bracket = false
is_partner Parenthesis Brace = false
is_partner Bracket Parenthesis = false
is_partner Bracket Brace = false
is_partner Brace Parenthesis = false
is_partner Brace Bracket = false

-- The delimiters that are open after the lexemes, innermost first, with their byte offsets. The
-- first argument holds the delimiters that are open before the lexemes. `None` if a delimiter
-- closes one that is not its partner.
abbrev pub opened : List (Delimiter × ℕ) → List Lexeme → Option (List (Delimiter × ℕ))
opened around [] = Some around
opened around (leaf token ∷ rest) = opened around rest
opened around (opens delimiter from ∷ rest) = opened ((delimiter, from) ∷ around) rest
opened [] (closes delimiter to ∷ rest) = None
opened (innermost ∷ around) (closes delimiter to ∷ rest) = if is_partner innermost.0 delimiter then opened around rest else None

-- The greatest number of delimiters that are open at once, with `n` open before the lexemes.
abbrev pub most_open : ℕ → List Lexeme → ℕ
most_open n [] = n
most_open n (leaf token ∷ rest) = most_open n rest
most_open n (opens delimiter from ∷ rest) = most_open (n + 1) rest
most_open n (closes delimiter to ∷ rest) = max n (most_open (n - 1) rest)

-- The source up to this byte offset is a sequence of pieces. These delimiters are open there, and
-- there is no fault before it and no limit is exceeded.
pub record IsFront (bytes : List ℕ) (to : ℕ) (around : List (Delimiter × ℕ)) : Type 0 where
  pub pieces : List Piece
  pub filled : Pieces bytes 0 pieces to
  pub nested : opened [] (seen bytes pieces) ≡ Some around
  pub shallow : most_open 0 (seen bytes pieces) ≤ 128

-- No further piece begins after a sequence of pieces.
pub record IsBroken (bytes : List ℕ) (kind : LexicalKind) (span : Span) : Type 0 where
  pub at : ℕ
  pub around : List (Delimiter × ℕ)
  pub front : IsFront bytes at around
  pub inside : at < length bytes
  pub stuck : IsStuck bytes at kind span

-- After a sequence of pieces a delimiter closes nothing, or closes a delimiter that is not its
-- partner.
pub record IsUnmatched (bytes : List ℕ) (span : Span) : Type 0 where
  pub around : List (Delimiter × ℕ)
  pub delimiter : Delimiter
  pub front : IsFront bytes span.from around
  pub piece : IsNext bytes span.from (Closing delimiter) span.to
  pub apart : opened around (closes delimiter span.to ∷ []) ≡ None

-- At the end of the source this delimiter is open, and it is the innermost open one.
pub record IsUnclosed (bytes : List ℕ) (span : Span) : Type 0 where
  pub around : List (Delimiter × ℕ)
  pub delimiter : Delimiter
  pub front : IsFront bytes (length bytes) ((delimiter, span.from) ∷ around)
  pub piece : IsNext bytes span.from (Opening delimiter) span.to

-- The first fault of the source, from the left.
pub data IsUnreadable (bytes : List ℕ) : LexicalKind → Span → Type 0 where
  broken : {kind : LexicalKind} {span : Span} → IsBroken bytes kind span → IsUnreadable bytes kind span
  unmatched : {span : Span} → IsUnmatched bytes span → IsUnreadable bytes Unbalanced span
  unclosed : {span : Span} → IsUnclosed bytes span → IsUnreadable bytes Unbalanced span

-- After a sequence of pieces with as many open delimiters as the limit allows, another one opens.
pub record IsTooDeep (bytes : List ℕ) (span : Span) : Type 0 where
  pub around : List (Delimiter × ℕ)
  pub delimiter : Delimiter
  pub front : IsFront bytes span.from around
  pub full : length around ≡ 128
  pub piece : IsNext bytes span.from (Opening delimiter) span.to

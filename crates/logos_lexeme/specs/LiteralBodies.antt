-- The contents of literals.
use Rattle.std.specs.Prelude.{◌≡◌, ◌≢◌, ℕ, ◌+◌, ◌-◌, ◌*◌, ◌<◌, ◌≤◌, ◌==◌, ◌||◌, ◌⊎◌, Bool, true, false, if◌then◌else◌, List, [], ◌∷◌, ◌++◌, length, slice_index, slice_range, fold, filter, encode_utf8, IsTrue, IsFalse}
use Rattle.std.specs.Char.{is_digit, digit_value, IsScalar}
use Rattle.std.specs.List.{list_any}
use Rattle.logos_lexeme.specs.LexemeRuns.{Steps, IsFirst}
use Rattle.logos_lexeme.specs.LexemeEnds.{body_of}
use Rattle.logos_lexeme.specs.declared.lexeme.bodies.Piece.{Piece}
use Rattle.logos_lexeme.specs.declared.lexeme.bodies.Piece.TheVariants as piece
use Rattle.logos_lexeme.specs.declared.lexeme.openings.Content.{Content}
use Rattle.logos_lexeme.specs.declared.lexeme.openings.Content.TheVariants.{Text, Bytes, C}
use Rattle.logos_lexeme.specs.declared.lexeme.openings.Opening.{Opening}
use Rattle.logos_lexeme.specs.declared.lexeme.openings.Opening.TheVariants.{Quotes, Raw, Apostrophes, Character}

-- Whether a byte after a backslash is a complete escape: `n`, `r`, `t`, `\`, `0`, `'` or `"`.
unfoldable pub is_simple : ℕ → Bool
is_simple c = list_any (λ letter. letter == c) (110 ∷ 114 ∷ 116 ∷ 92 ∷ 48 ∷ 39 ∷ 34 ∷ [])

-- Whether a byte is a hexadecimal digit.
abbrev pub is_hex : ℕ → Bool
is_hex c = is_digit c 16

-- The number that hexadecimal digits spell.
abbrev pub hex_value : List ℕ → ℕ
hex_value digits = fold (λ value digit. value * 16 + digit_value digit) 0 digits

-- The greatest byte that `\xNN` can denote.
abbrev pub greatest_of : Content → ℕ
greatest_of Text = 0x7F
greatest_of Bytes = 0xFF
greatest_of C = 0xFF

-- The escape `\xNN` at a byte offset.
pub record IsHexEscape (content : Content) (bytes : List ℕ) (at : ℕ) : Type 0 where
  pub backslash : slice_index bytes at ≡ 92
  pub letter : slice_index bytes (at + 1) ≡ 120
  pub first : IsTrue (is_hex (slice_index bytes (at + 2)))
  pub second : IsTrue (is_hex (slice_index bytes (at + 3)))
  pub small : hex_value (slice_range bytes (at + 2) (at + 4)) ≤ greatest_of content

-- The digits of a span, without `_`.
abbrev pub digits_between : List ℕ → ℕ → ℕ → List ℕ
digits_between bytes from to = filter is_hex (slice_range bytes from to)

-- `\u{N}`: up to six digits, with `_` anywhere after the first, that spell the number of a
-- character. `brace` is the offset of its closing brace.
pub record IsUnicodeEscape (bytes : List ℕ) (at brace : ℕ) : Type 0 where
  pub backslash : slice_index bytes at ≡ 92
  pub letter : slice_index bytes (at + 1) ≡ 117
  pub opens : slice_index bytes (at + 2) ≡ 123
  pub first : IsTrue (is_hex (slice_index bytes (at + 3)))
  pub begun : at + 3 ≤ brace
  pub digits : (i : ℕ) → at + 3 ≤ i → i < brace → IsTrue (is_hex (slice_index bytes i) || (slice_index bytes i == 95))
  pub closes : slice_index bytes brace ≡ 125
  pub few : length (digits_between bytes (at + 3) brace) ≤ 6
  pub scalar : IsScalar (hex_value (digits_between bytes (at + 3) brace))

-- The byte that a letter after a backslash denotes.
unfoldable pub simple_value : ℕ → ℕ
simple_value letter =
    if letter == 110 then 10
    else (if letter == 114 then 13
    else (if letter == 116 then 9
    else (if letter == 48 then 0
    else letter)))

-- An escape from `at` to `next`, and the bytes that it denotes.
pub data IsEscape (content : Content) (bytes : List ℕ) (at next : ℕ) : List ℕ → Type 0 where
  simple : slice_index bytes at ≡ 92 → IsTrue (is_simple (slice_index bytes (at + 1))) → next ≡ at + 2 → IsEscape content bytes at next (simple_value (slice_index bytes (at + 1)) ∷ [])
  hex : IsHexEscape content bytes at → next ≡ at + 4 → IsEscape content bytes at next (hex_value (slice_range bytes (at + 2) (at + 4)) ∷ [])
  unicode : {brace : ℕ} → content ≢ Bytes → IsUnicodeEscape bytes at brace → next ≡ brace + 1 → IsEscape content bytes at next (encode_utf8 (hex_value (digits_between bytes (at + 3) brace)))

-- Whether a byte is a space, a tab, LF or CR.
unfoldable pub is_blank : ℕ → Bool
is_blank c = (c == 32) || (c == 9) || (c == 10) || (c == 13)

-- A line break begins at a byte offset: LF, or CR LF.
abbrev pub BreaksLine : List ℕ → ℕ → Type 0
BreaksLine bytes at = (slice_index bytes at ≡ 10) ⊎ ((slice_index bytes at ≡ 13) × (slice_index bytes (at + 1) ≡ 10))

-- `\` before a line break, and all blank bytes that follow it.
pub record IsContinuation (bytes : List ℕ) (at next : ℕ) : Type 0 where
  pub backslash : slice_index bytes at ≡ 92
  pub breaks : BreaksLine bytes (at + 1)
  pub blanks : IsFirst (λ i. IsFalse (is_blank (slice_index bytes i))) (at + 1) next

-- A byte that can represent itself or is part of a character that can: not CR, and only ASCII in
-- bytes.
pub record IsAllowed (content : Content) (byte : ℕ) : Type 0 where
  pub no_return : byte ≢ 13
  pub ascii : content ≡ Bytes → byte < 128

-- The line break CR LF, which ends at `next`.
abbrev pub IsReturn : List ℕ → ℕ → ℕ → Type 0
IsReturn bytes at next = (slice_index bytes at ≡ 13) × (slice_index bytes (at + 1) ≡ 10) × (next ≡ at + 2)

-- A piece of a string from `at` to `next`, and the bytes that it denotes. `escapes` is whether the
-- string has escapes.
pub data Represents (escapes : Bool) (content : Content) (bytes : List ℕ) (at next : ℕ) : List ℕ → Type 0 where
  plain : (escapes ≡ true → slice_index bytes at ≢ 92) → IsAllowed content (slice_index bytes at) → next ≡ at + 1 → Represents escapes content bytes at next (slice_index bytes at ∷ [])
  return : IsReturn bytes at next → Represents escapes content bytes at next (10 ∷ [])
  escape : {held : List ℕ} → escapes ≡ true → IsEscape content bytes at next held → Represents escapes content bytes at next held
  continuation : escapes ≡ true → IsContinuation bytes at next → Represents escapes content bytes at next []

-- The bytes of a piece.
abbrev pub bytes_of : Piece → List ℕ
bytes_of piece.Nothing = []
bytes_of (piece.Byte byte) = byte ∷ []
bytes_of (piece.Character character) = encode_utf8 character

-- A piece of a string, whichever bytes it denotes.
abbrev pub IsPiece : Bool → Content → List ℕ → ℕ → ℕ → Type 0
IsPiece escapes content bytes at next = (held : List ℕ) × Represents escapes content bytes at next held

-- The span consists of pieces one after another, which denote these bytes.
pub data Holds (escapes : Bool) (content : Content) (bytes : List ℕ) : (at to : ℕ) → List ℕ → Type 0 where
  none : {at : ℕ} → Holds escapes content bytes at at []
  more : {at mid to : ℕ} {first rest held : List ℕ} → Represents escapes content bytes at mid first → Holds escapes content bytes mid to rest → held ≡ first ++ rest → Holds escapes content bytes at to held

-- One character or escape between apostrophes.
pub data IsCharacterPiece (content : Content) (bytes : List ℕ) (at next : ℕ) : Type 0 where
  unescaped : slice_index bytes at ≢ 92 → IsAllowed content (slice_index bytes at) → next ≡ at + 1 → IsCharacterPiece content bytes at next
  escaped : {held : List ℕ} → IsEscape content bytes at next held → IsCharacterPiece content bytes at next

-- The literal that opens at `from` and ends at `to`, without its suffix, has well-formed contents.
-- This holds for anything that is not a literal.
abbrev pub IsSound : List ℕ → ℕ → Opening → ℕ → Type 0
IsSound bytes from (Quotes content) to = Steps (IsPiece true content bytes) (body_of (Quotes content) from) (to - 1)
IsSound bytes from (Raw content count) to = Steps (IsPiece false content bytes) (body_of (Raw content count) from) (to - 1 - count)
IsSound bytes from (Apostrophes content) to = IsCharacterPiece content bytes (body_of (Apostrophes content) from) (to - 1)
IsSound bytes from Character to = slice_index bytes (from + 1) ≢ 13
IsSound bytes from _ to = Unit {0}

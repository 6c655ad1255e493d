-- The pieces of strings as functions of a byte offset: the bytes that a piece denotes, and its end.
use Rattle.std.specs.Prelude.{ℕ, ◌+◌, ◌==◌, ◌&&◌, ◌||◌, not, nat_lt, nat_le, Bool, true, false, if◌then◌else◌, List, [], ◌∷◌, length, drop, slice_index, slice_range, encode_utf8, Option, Some, None}
use Rattle.std.specs.List.{prefix_len}
use lib.Utf8.{scalar}
use Rattle.logos_lexeme.specs.LiteralBodies.{is_simple, simple_value, is_hex, hex_value, greatest_of, digits_between, is_blank}
use Rattle.logos_lexeme.specs.declared.lexeme.openings.Content.{Content}
use Rattle.logos_lexeme.specs.declared.lexeme.openings.Content.TheVariants.{Text, Bytes, C}

-- The number of consecutive bytes that pass a test, from a byte offset on.
abbrev pub run_length : (ℕ → Bool) → List ℕ → ℕ → ℕ
run_length test bytes at = prefix_len test (drop at bytes)

-- Whether a byte is a digit of `\u{N}`, or `_`.
abbrev pub is_hex_or_line : ℕ → Bool
is_hex_or_line c = is_hex c || (c == 95)

-- The escape `\xNN` at a byte offset: its byte and its end.
unfoldable pub hex_escape : Content → List ℕ → ℕ → Option (List ℕ × ℕ)
hex_escape content bytes at =
    let value = hex_value (slice_range bytes (at + 2) (at + 4)) in
    if is_hex (slice_index bytes (at + 2)) && (is_hex (slice_index bytes (at + 3)) && nat_le value (greatest_of content)) then Some (value ∷ [], at + 4)
    else None

-- Whether a literal can hold `\u{N}`.
abbrev pub has_unicode : Content → Bool
has_unicode Text = true
has_unicode Bytes = false
has_unicode C = true

-- The escape `\u{N}`, whose brace closes after the digits: the bytes that it denotes, and its end.
unfoldable pub unicode_escape : Content → List ℕ → ℕ → Option (List ℕ × ℕ)
unicode_escape content bytes at =
    let brace = at + 3 + run_length is_hex_or_line bytes (at + 3) in
    let digits = digits_between bytes (at + 3) brace in
    if has_unicode content && ((slice_index bytes (at + 2) == 123) && (is_hex (slice_index bytes (at + 3)) && ((slice_index bytes brace == 125) && (nat_le (length digits) 6 && scalar (hex_value digits)))))
    then Some (encode_utf8 (hex_value digits), brace + 1)
    else None

-- The escape that begins with a backslash at a byte offset: the bytes that it denotes, and its end.
unfoldable pub escape_at : Content → List ℕ → ℕ → Option (List ℕ × ℕ)
escape_at content bytes at =
    let letter = slice_index bytes (at + 1) in
    if is_simple letter then Some (simple_value letter ∷ [], at + 2)
    else (if letter == 120 then hex_escape content bytes at
    else (if letter == 117 then unicode_escape content bytes at
    else None))

-- Whether a byte can represent itself.
abbrev pub is_allowed : Content → ℕ → Bool
is_allowed Text byte = not (byte == 13)
is_allowed Bytes byte = not (byte == 13) && nat_lt byte 128
is_allowed C byte = not (byte == 13)

-- Whether CR LF is at a byte offset.
abbrev pub is_return : List ℕ → ℕ → Bool
is_return bytes at = (slice_index bytes at == 13) && (slice_index bytes (at + 1) == 10)

-- A piece without a backslash: a byte that represents itself, or CR LF, which denotes LF.
unfoldable pub plain_at : Content → List ℕ → ℕ → Option (List ℕ × ℕ)
plain_at content bytes at =
    if is_allowed content (slice_index bytes at) then Some (slice_index bytes at ∷ [], at + 1)
    else (if is_return bytes at then Some (10 ∷ [], at + 2)
    else None)

-- Whether a line break begins at a byte offset: LF, or CR LF.
abbrev pub breaks_line : List ℕ → ℕ → Bool
breaks_line bytes at = (slice_index bytes at == 10) || is_return bytes at

-- The piece at a byte offset. A backslash before a line break denotes no bytes, and includes all
-- blank bytes that follow.
unfoldable pub piece_at : Bool → Content → List ℕ → ℕ → Option (List ℕ × ℕ)
piece_at escapes content bytes at =
    if not (escapes && (slice_index bytes at == 92)) then plain_at content bytes at
    else (if breaks_line bytes (at + 1) then Some ([], at + 1 + run_length is_blank bytes (at + 1))
    else escape_at content bytes at)

-- The value of a string or byte string literal, as a function of its text.
use Rattle.std.specs.Prelude.{ℕ, zero, suc, ◌+◌, ◌==◌, ◌&&◌, nat_le, Bool, true, false, if◌then◌else◌, List, [], ◌++◌, length, slice_index, Option, Some, None, option_map, string_bytes}
use Rattle.std.specs.Option.{option_and_then}
use Rattle.logos_lexeme.specs.LexemeOpenings.{hashes, opening_at}
use Rattle.logos_lexeme.specs.LexemeEnds.{body_of}
use Rattle.logos_lexeme.specs.LiteralPieces.{piece_at}
use Rattle.logos_lexeme.specs.declared.lexeme.openings.Content.{Content}
use Rattle.logos_lexeme.specs.declared.lexeme.openings.Content.TheVariants.{Text as Characters, Bytes as Octets, C}
use Rattle.logos_lexeme.specs.declared.lexeme.openings.Opening.{Opening}
use Rattle.logos_lexeme.specs.declared.lexeme.openings.Opening.TheVariants.{Quotes, Raw}
use Rattle.logos_token.specs.declared.token.value.LiteralValue.{LiteralValue}
use Rattle.logos_token.specs.declared.token.value.LiteralValue.TheVariants.{Text, Bytes}

-- The text of a string in UTF-8, or the bytes of a byte string.
pub data Held : Type 0 where
  of_text : List ℕ → Held
  of_bytes : List ℕ → Held

-- The bytes that the pieces of a string denote, from an offset up to the offset at which the string
-- closes, if the pieces end there. The last number bounds the number of pieces.
abbrev pub held_from : Bool → Content → (ℕ → Bool) → List ℕ → ℕ → ℕ → Option (List ℕ)
held_from escapes content closes bytes zero at = None
held_from escapes content closes bytes (suc most) at =
    if closes at then Some []
    else option_and_then (λ piece. option_map (λ rest. piece.0 ++ rest) (held_from escapes content closes bytes most piece.1)) (piece_at escapes content bytes at)

-- Whether a quote is at a byte offset.
abbrev pub is_quote : List ℕ → ℕ → Bool
is_quote bytes at = slice_index bytes at == 34

-- Whether a quote followed by `count` `#` is at a byte offset.
abbrev pub is_raw_quote : ℕ → List ℕ → ℕ → Bool
is_raw_quote count bytes at = (slice_index bytes at == 34) && nat_le count (hashes bytes (at + 1))

-- The value of a string with this content. A C string has none.
abbrev pub held_as : Content → List ℕ → Option Held
held_as Characters bytes = Some (of_text bytes)
held_as Octets bytes = Some (of_bytes bytes)
held_as C bytes = None

-- The value of the string at the start of a text that opens in this way. A text has no more pieces
-- than bytes.
abbrev pub held_in : List ℕ → Opening → Option Held
held_in text (Quotes content) = option_and_then (held_as content) (held_from true content (is_quote text) text (length text) (body_of (Quotes content) 0))
held_in text (Raw content count) = option_and_then (held_as content) (held_from false content (is_raw_quote count text) text (length text) (body_of (Raw content count) 0))
held_in text _ = None

-- The value of the string or byte string at the start of a text, if the text begins with a
-- well-formed one.
abbrev pub held : List ℕ → Option Held
held text = held_in text (opening_at text 0)

-- The value that a `LiteralValue` represents.
abbrev pub held_value : LiteralValue → Held
held_value (Text value) = of_text (string_bytes value)
held_value (Bytes value) = of_bytes value.items

-- The text of a pattern for the value of a string literal.
use Rattle.std.specs.Prelude.{ℕ, ◌+◌, ◌/◌, ◌%◌, Bool, true, false, ◌==◌, nat_lt, List, [], ◌∷◌, ◌++◌, codes, if◌then◌else◌}
use Rattle.std.specs.List.{list_any, flat_map}
use Rattle.std.specs.Char.{encode_utf8}
use Rattle.std.specs.Str.{chars}

-- The characters that need a `\` before them to match themselves: `\ . + * ? ( ) | [ ] { } ^ $ # &
-- - ~`.
abbrev pub is_metacharacter : ℕ → Bool
is_metacharacter c = list_any (λ meta. meta == c) (codes "\\.+*?()|[]{}^$#&-~")

-- A character, with a `\` before it if it needs one to match itself.
abbrev pub escaped_character : ℕ → List ℕ
escaped_character c = (if is_metacharacter c then codes "\\" else []) ++ encode_utf8 c

-- A hexadecimal digit, in upper case.
abbrev pub upper_digit : ℕ → ℕ
upper_digit n = if nat_lt n 10 then 48 + n else 55 + n

-- A byte of a byte string: an ASCII byte is the character, with a `\` if needed, and any other byte
-- is `\xNN`.
abbrev pub escaped_byte : Bool → ℕ → List ℕ
escaped_byte literal b =
    if nat_lt b 128 then (if literal then escaped_character b else b ∷ [])
    else codes "\\x" ++ upper_digit (b / 16) ∷ upper_digit (b % 16) ∷ []

-- A string's value as the text of a pattern. If it is a literal, the pattern matches exactly that
-- value.
abbrev pub escaped_text : Bool → List ℕ → List ℕ
escaped_text true value = flat_map escaped_character (chars value)
escaped_text false value = value

-- A byte string's value as the text of a pattern. If it is a literal, the pattern matches exactly
-- that value.
abbrev pub escaped_bytes : Bool → List ℕ → List ℕ
escaped_bytes literal value = flat_map (escaped_byte literal) value

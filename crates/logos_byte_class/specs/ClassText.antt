-- The printed text of bytes and of sets of bytes.
use Rattle.std.specs.Prelude.{ℕ, ◌+◌, ◌/◌, ◌%◌, ◌&&◌, Option, Some, None, ◌==◌, nat_le, nat_lt, List, [], ◌∷◌, ◌++◌, codes, if◌then◌else◌}
use Rattle.std.specs.List.{flat_map, join_by}

-- The letter that follows `\` for a byte that prints as such an escape: `t`, `r` and `n` for tab,
-- CR and LF; both quotes and `\` follow as themselves.
abbrev pub letter_of : ℕ → Option ℕ
letter_of b =
    if b == 9 then Some 116
    else (if b == 13 then Some 114 else (if b == 10 then Some 110 else (if b == 39 then Some 39 else (if b == 34 then Some 34 else (if b == 92 then Some 92 else None)))))

-- A hexadecimal digit, in lower case.
abbrev pub lower_digit : ℕ → ℕ
lower_digit n = if nat_lt n 10 then 48 + n else 87 + n

-- The text of a byte that has no such letter: the byte itself if it is printable, and `\xNN`
-- otherwise.
abbrev pub plain_byte_text : ℕ → List ℕ
plain_byte_text b = if nat_le 32 b && nat_lt b 127 then b ∷ [] else 92 ∷ 120 ∷ lower_digit (b / 16) ∷ lower_digit (b % 16) ∷ []

-- The printed text of a byte, given the letter of its escape if it has one.
abbrev pub text_by : Option ℕ → ℕ → List ℕ
text_by None b = plain_byte_text b
text_by (Some letter) b = 92 ∷ letter ∷ []

-- The printed text of a byte.
abbrev pub byte_text : ℕ → List ℕ
byte_text b = text_by (letter_of b) b

-- The text of a range: of its one byte, or of its first and its last byte.
abbrev pub range_text : ℕ × ℕ → List ℕ
range_text range = if range.0 == range.1 then byte_text range.0 else byte_text range.0 ++ codes "..=" ++ byte_text range.1

-- Ranges, each after a separator.
abbrev pub next_ranges_text : List ℕ → List (ℕ × ℕ) → List ℕ
next_ranges_text between ranges = flat_map (λ range. between ++ range_text range) ranges

-- Ranges, with a separator between them.
abbrev pub class_text : List ℕ → List (ℕ × ℕ) → List ℕ
class_text between ranges = join_by range_text between ranges

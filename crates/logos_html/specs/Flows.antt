-- Bytes of an input as preformatted text of a page.
use Rattle.std.specs.Prelude.{ℕ, ◌+◌, ◌/◌, ◌%◌, nat_lt, List, ◌++◌, chars, codes, if◌then◌else◌}
use Rattle.std.specs.List.{flat_map}
use Rattle.std.specs.Str.{is_utf8}
use Rattle.logos_html.specs.Escapes.{escaped_char, line_end}

-- A hexadecimal digit, in upper case.
abbrev pub hex_digit : ℕ → ℕ
hex_digit d = if nat_lt d 10 then 48 + d else 55 + d

-- The escape of a byte, such as `\xE9`.
abbrev pub byte_escape : ℕ → List ℕ
byte_escape b = codes "\\x" ++ (escaped_char (hex_digit (b / 16)) ++ escaped_char (hex_digit (b % 16)))

-- A character of preformatted text: the line ends after the picture of LF.
abbrev pub flowing_char : ℕ → List ℕ
flowing_char c = escaped_char c ++ line_end c

-- A byte among bytes that are not UTF-8.
abbrev pub flowing_byte : ℕ → List ℕ
flowing_byte b = if nat_lt b 128 then flowing_char b else byte_escape b

-- A text as preformatted text, and bytes that are not UTF-8 as preformatted text.
abbrev pub flowing_text : List ℕ → List ℕ
flowing_text text = flat_map flowing_char (chars text)

abbrev pub flowing_others : List ℕ → List ℕ
flowing_others bytes = flat_map flowing_byte bytes

-- Bytes as preformatted text.
abbrev pub flowing_bytes : List ℕ → List ℕ
flowing_bytes bytes = if is_utf8 bytes then flowing_text bytes else flowing_others bytes

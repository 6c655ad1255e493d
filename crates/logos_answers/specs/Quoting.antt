-- Bytes in the form in which they are shown in quotes.
use Rattle.std.specs.Prelude.{ℕ, ◌+◌, ◌/◌, ◌%◌, ◌==◌, ◌&&◌, ◌||◌, not, nat_le, nat_lt, Bool, List, ◌++◌, codes, if◌then◌else◌, length, take, slice_index}
use Rattle.std.specs.List.{flat_map}
use Rattle.std.specs.Char.{encode_utf8}
use Rattle.std.specs.Str.{chars, is_utf8}

-- A hexadecimal digit, in upper case.
abbrev pub hex_digit : ℕ → ℕ
hex_digit d = if nat_lt d 10 then 48 + d else 55 + d

-- The last hexadecimal digit of a number, as a text.
abbrev pub last_digit : ℕ → List ℕ
last_digit n = encode_utf8 (hex_digit (n % 16))

-- The last four hexadecimal digits of a number.
abbrev pub four_digits : ℕ → List ℕ
four_digits n = last_digit (n / 4096) ++ (last_digit (n / 256) ++ (last_digit (n / 16) ++ last_digit n))

-- The two hexadecimal digits before the last four.
abbrev pub two_digits_before : ℕ → List ℕ
two_digits_before n = last_digit (n / 1048576) ++ last_digit (n / 65536)

-- The number of a character, such as in `\u{200B}`.
abbrev pub number_digits : ℕ → List ℕ
number_digits c = if nat_lt c 65536 then four_digits c else two_digits_before c ++ four_digits c

abbrev pub number_escape : ℕ → List ℕ
number_escape c = codes "\\u{" ++ (number_digits c ++ codes "}")

-- The escape of a byte, such as `\xE9`.
abbrev pub byte_escape : ℕ → List ℕ
byte_escape b = codes "\\x" ++ (last_digit (b / 16) ++ last_digit b)

abbrev pub is_between : ℕ → ℕ → ℕ → Bool
is_between from to c = nat_le from c && nat_le c to

-- Whether a character is a control character, or is invisible, or changes the direction of a line.
abbrev pub is_hidden_low : ℕ → Bool
is_hidden_low c = nat_lt c 32 || (is_between 127 159 c || ((c == 173) || ((c == 847) || (c == 1564))))

abbrev pub is_hidden_filler : ℕ → Bool
is_hidden_filler c = is_between 4447 4448 c || (is_between 6068 6069 c || (is_between 6155 6159 c || ((c == 12644) || (c == 65440))))

abbrev pub is_hidden_mark : ℕ → Bool
is_hidden_mark c = is_between 8203 8207 c || (is_between 8232 8238 c || (is_between 8288 8303 c || (is_between 65024 65039 c || (c == 65279))))

abbrev pub is_hidden_special : ℕ → Bool
is_hidden_special c = is_between 65520 65531 c || is_between 917504 921599 c

abbrev pub is_hidden : ℕ → Bool
is_hidden c = is_hidden_low c || (is_hidden_filler c || (is_hidden_mark c || is_hidden_special c))

-- The escape of a hidden character, with its number.
abbrev pub hidden_escape : ℕ → List ℕ
hidden_escape c = if nat_lt c 128 then byte_escape c else number_escape c

abbrev pub shown_other : ℕ → List ℕ
shown_other c = if is_hidden c then hidden_escape c else encode_utf8 c

-- A character in the form in which it is shown in quotes.
abbrev pub shown_character : ℕ → List ℕ
shown_character c =
    if c == 34 then codes "\\\""
    else (if c == 92 then codes "\\\\"
    else (if c == 10 then codes "\\n"
    else (if c == 13 then codes "\\r"
    else (if c == 9 then codes "\\t"
    else shown_other c))))

-- A byte in the form in which it is shown in quotes, among bytes that are not UTF-8.
abbrev pub shown_byte : ℕ → List ℕ
shown_byte b = if nat_lt b 128 then shown_character b else byte_escape b

-- The shown form of a text, and of bytes that are not UTF-8.
abbrev pub shown_text : List ℕ → List ℕ
shown_text text = flat_map shown_character (chars text)

abbrev pub shown_others : List ℕ → List ℕ
shown_others bytes = flat_map shown_byte bytes

-- The shown form of bytes between the quotes.
abbrev pub shown_bytes : List ℕ → List ℕ
shown_bytes bytes = if is_utf8 bytes then shown_text bytes else shown_others bytes

-- Whether a byte is a continuation byte of a character.
abbrev pub continues : ℕ → Bool
continues byte = nat_le 128 byte && nat_lt byte 192

-- The number of shown bytes of more than sixty. A character is not cut.
abbrev pub cut_of : List ℕ → ℕ
cut_of bytes =
    if not (continues (slice_index bytes 60)) then 60
    else (if not (continues (slice_index bytes 59)) then 59
    else (if not (continues (slice_index bytes 58)) then 58
    else 57))

-- The shown bytes, at most sixty.
abbrev pub clipped : List ℕ → List ℕ
clipped bytes = if nat_lt 60 (length bytes) then take (cut_of bytes) bytes else bytes

-- The closing quote, and two dots if some bytes are not shown.
abbrev pub closing : List ℕ → List ℕ
closing bytes = if nat_lt 60 (length bytes) then codes "\".." else codes "\""

-- Bytes in quotes.
abbrev pub quoted : List ℕ → List ℕ
quoted bytes = codes "\"" ++ (shown_bytes (clipped bytes) ++ closing bytes)

-- The Rust literal for a text, and for bytes that are not UTF-8.
abbrev pub string_literal : List ℕ → List ℕ
string_literal text = codes "\"" ++ (shown_text text ++ codes "\"")

abbrev pub byte_literal : List ℕ → List ℕ
byte_literal bytes = codes "b\"" ++ (shown_others bytes ++ codes "\"")

-- The Rust literal for all of the bytes.
abbrev pub literal : List ℕ → List ℕ
literal bytes = if is_utf8 bytes then string_literal bytes else byte_literal bytes

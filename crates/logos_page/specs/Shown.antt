-- The form in which characters are shown on a terminal.
use Rattle.std.specs.Prelude.{ℕ, ◌+◌, ◌==◌, ◌||◌, Bool, nat_lt, List, codes, chars, encode_utf8, if◌then◌else◌}
use Rattle.std.specs.Int.{is_in_range}
use Rattle.std.specs.List.{flat_map}

-- Whether a character other than an ASCII control character is unsafe to show: those of C1, the
-- soft hyphen, those that set the direction or the order of a text, those that take no column, the
-- separators of lines, and the tags.
abbrev pub is_unsafe : ℕ → Bool
is_unsafe c =
    ((((((((is_in_range 0x80 0x9F c || (c == 0xAD)) || (c == 0x61C)) || (c == 0x180E)) || is_in_range 0x200B 0x200F c) || is_in_range 0x2028 0x202E c)
    || is_in_range 0x2060 0x206F c) || (c == 0xFEFF)) || is_in_range 0xFFF9 0xFFFB c) || is_in_range 0xE0000 0xE007F c

-- The character that represents a character other than a tab on a terminal: the picture of an ASCII
-- control character, U+FFFD for any other unsafe one, or otherwise the character itself.
abbrev pub occur_in : ℕ → ℕ
occur_in c = if nat_lt c 32 then 0x2400 + c else if c == 127 then 0x2421 else if is_unsafe c then 0xFFFD else c

-- A character in the form in which it is shown, in UTF-8: a tab is four blanks.
abbrev pub shown_char : ℕ → List ℕ
shown_char c = if c == 9 then codes "    " else encode_utf8 (occur_in c)

-- A text in the form in which it is shown.
abbrev pub shown_text : List ℕ → List ℕ
shown_text text = flat_map shown_char (chars text)

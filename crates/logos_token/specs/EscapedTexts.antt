-- Texts as written between the quotes of a string literal.
use Rattle.std.specs.Prelude.{ℕ, ◌==◌, List, codes, if◌then◌else◌}
use Rattle.std.specs.List.{flat_map}
use Rattle.std.specs.Char.{encode_utf8}
use Rattle.std.specs.Str.{chars}

-- A character as written between the quotes of a string literal.
abbrev pub escaped_character : ℕ → List ℕ
escaped_character c =
    if c == 34 then codes "\\\""
    else (if c == 92 then codes "\\\\"
    else (if c == 10 then codes "\\n"
    else (if c == 13 then codes "\\r"
    else (if c == 9 then codes "\\t"
    else encode_utf8 c))))

-- A text as written between the quotes of a string literal.
abbrev pub escaped : List ℕ → List ℕ
escaped text = flat_map escaped_character (chars text)

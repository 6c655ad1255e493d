-- Text in a label of a Mermaid diagram.
use Rattle.std.specs.Prelude.{◌≡◌, ℕ, ◌==◌, ◌&&◌, ◌||◌, not, nat_le, Bool, true, List, [], ◌∷◌, ◌++◌, chars, codes, decimal, if◌then◌else◌}
use Rattle.std.specs.List.{flat_map}
use Rattle.logos_page.specs.Shown.{shown_char}

abbrev pub is_between : ℕ → ℕ → ℕ → Bool
is_between from to c = nat_le from c && nat_le c to

-- An ASCII letter or digit.
abbrev pub is_alphanumeric : ℕ → Bool
is_alphanumeric c = is_between 48 57 c || (is_between 65 90 c || is_between 97 122 c)

-- One of `( ) + , - . [ ] ^ _`.
abbrev pub is_plain : ℕ → Bool
is_plain c = is_between 40 41 c || (is_between 43 46 c || ((c == 91) || is_between 93 95 c))

-- Visible ASCII other than letters, digits and plain punctuation.
abbrev pub is_coded : ℕ → Bool
is_coded c = is_between 33 126 c && not (is_alphanumeric c || is_plain c)

-- The entity code of a character.
abbrev pub coded : ℕ → List ℕ
coded c = codes "#" ++ (decimal c ++ codes ";")

-- A character of a label.
abbrev pub label_char : ℕ → List ℕ
label_char c = if is_coded c then coded c else shown_char c

-- A text of a label.
abbrev pub label_text : List ℕ → List ℕ
label_text text = flat_map label_char (chars text)

-- Whether a byte can be in a label: a blank, a letter, a digit, plain punctuation, a part of an
-- entity code, or a part of a character outside ASCII. No quote, no backtick, no `<`, no `%`, no
-- brace, no line end and no other control character is one.
abbrev pub is_label_byte : ℕ → Bool
is_label_byte b = (b == 32) || (is_alphanumeric b || (is_plain b || ((b == 35) || ((b == 59) || nat_le 128 b))))

-- All bytes of a text can be in a label.
abbrev pub AreLabelBytes : List ℕ → Type 0
AreLabelBytes [] = Unit {0}
AreLabelBytes (b ∷ rest) = (is_label_byte b ≡ true) × AreLabelBytes rest

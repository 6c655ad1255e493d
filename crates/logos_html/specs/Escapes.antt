-- Text in a page, in a form that a browser reads as the shown text.
use Rattle.std.specs.Prelude.{◌≡◌, ℕ, List, [], ◌∷◌, ◌++◌, ◌==◌, ◌||◌, not, Bool, true, chars, codes, if◌then◌else◌}
use Rattle.std.specs.List.{flat_map}
use Rattle.logos_page.specs.Shown.{shown_char}

-- A character as text of a page: a reference for one that would be markup, and the shown form of
-- any other one.
abbrev pub escaped_char : ℕ → List ℕ
escaped_char c =
    if c == 38 then codes "&amp;"
    else (if c == 60 then codes "&lt;"
    else (if c == 62 then codes "&gt;"
    else (if c == 34 then codes "&quot;"
    else (if c == 39 then codes "&#39;"
    else shown_char c))))

-- A text as text of a page.
abbrev pub escaped_text : List ℕ → List ℕ
escaped_text text = flat_map escaped_char (chars text)

-- A character of lines in a page: LF ends a line, and any other one is text.
abbrev pub escaped_line_char : ℕ → List ℕ
escaped_line_char c = if c == 10 then codes "\n" else escaped_char c

-- Lines as text of a page.
abbrev pub escaped_lines : List ℕ → List ℕ
escaped_lines text = flat_map escaped_line_char (chars text)

-- The shown form of a character of lines.
abbrev pub shown_line_char : ℕ → List ℕ
shown_line_char c = if c == 10 then codes "\n" else shown_char c

-- The shown form of lines.
abbrev pub shown_lines : List ℕ → List ℕ
shown_lines text = flat_map shown_line_char (chars text)

-- The line end after a character, if it is LF.
abbrev pub line_end : ℕ → List ℕ
line_end c = if c == 10 then codes "\n" else []

-- Whether a byte begins no reference and no element, and ends no value of an attribute: it is none
-- of `&`, `<`, `>`, `"` and `'`.
abbrev pub is_plain : ℕ → Bool
is_plain b = not ((b == 38) || ((b == 60) || ((b == 62) || ((b == 34) || (b == 39)))))

-- The references that a page has, and the characters that they denote.
pub data IsReference : List ℕ → ℕ → Type 0 where
  ampersand : IsReference (codes "&amp;") 38
  less : IsReference (codes "&lt;") 60
  greater : IsReference (codes "&gt;") 62
  quote : IsReference (codes "&quot;") 34
  apostrophe : IsReference (codes "&#39;") 39

-- A browser reads these bytes of a page as that text: a reference as its character, and any other
-- byte, which is no markup, as itself.
pub data ReadsAs : List ℕ → List ℕ → Type 0 where
  ends : ReadsAs [] []
  itself : (byte : ℕ) (html text : List ℕ) → is_plain byte ≡ true → ReadsAs html text → ReadsAs (byte ∷ html) (byte ∷ text)
  reference : (name : List ℕ) (c : ℕ) (html text : List ℕ) → IsReference name c → ReadsAs html text → ReadsAs (name ++ html) (c ∷ text)

-- The lines about two lexers that differ.
use Rattle.std.specs.Prelude.{ℕ, Bool, List, ◌++◌, codes, if◌then◌else◌}
use Rattle.logos_answers.specs.Quoting.{quoted}
use Rattle.logos_page.specs.Shown.{shown_text}

-- The line with an input on which two lexers differ, in quotes.
abbrev pub difference_line : List ℕ → List ℕ
difference_line input = codes "the lexers differ on " ++ (quoted input ++ codes "\n")

-- The line with the path of the file of a lexer, and whether the lexer reads UTF-8 or any bytes.
abbrev pub mode_line : List ℕ → Bool → List ℕ
mode_line path utf8 = shown_text path ++ (if utf8 then codes " reads UTF-8\n" else codes " reads any bytes\n")

-- The lines of partial matches, at an offset from which no leaf matches.
use Rattle.std.specs.Prelude.{◌≡◌, ◌<◌, ◌≤◌, ◌⊎◌, ℕ, zero, suc, List, [], ◌++◌, codes, decimal, length}
use Rattle.logos_answers.specs.Matches.{bytes_between}
use Rattle.logos_answers.specs.Names.{name_at}
use Rattle.logos_answers.specs.Quoting.{quoted}
use Rattle.logos_automaton.specs.Munch.{failed}
use Rattle.logos_code.specs.Code.{CodeValue}
use Rattle.logos_code.specs.Runs.{CodeFinds}
use Rattle.logos_page.specs.Pages.{Gains, PageValue}
use Rattle.logos_pattern.specs.declared.leaf.Leaf.{Leaf}
use Rattle.logos_attempts.specs.Around.{location_in, location_text}

-- The maximum number of lines.
abbrev pub shown : ℕ
shown = 8

-- The beginning of the line of a leaf.
abbrev pub reader_text : List Leaf → ℕ → List ℕ
reader_text leaves leaf = codes "  leaf " ++ (decimal leaf ++ (codes "  " ++ name_at leaves leaf))

-- The bytes that a leaf reads from an offset, and the location at which they end.
abbrev pub read_text : List ℕ → ℕ → ℕ → List ℕ
read_text input from end = codes "  reads " ++ (quoted (bytes_between input from end) ++ (codes " to " ++ location_text (location_in input end)))

module _ (leaves : List Leaf) (input : List ℕ) (from : ℕ) where
  -- The line of a leaf that reads up to the offset `end` and then needs other bytes.
  abbrev pub partial_line : ℕ → ℕ → List ℕ → List ℕ
  partial_line leaf end needs = reader_text leaves leaf ++ (read_text input from end ++ (codes "  then needs " ++ (needs ++ codes "\n")))

  -- The line of a leaf that reads at least one byte of the input.
  abbrev pub IsPartialLine : List ℕ → Type 0
  IsPartialLine line = (leaf end : ℕ) × (from < end) × (end ≤ length input) × (needs : List ℕ) × (line ≡ partial_line leaf end needs)

  -- Lines of leaves, one after another.
  pub data PartialLines : ℕ → List ℕ → Type 0 where
    begins : PartialLines 0 []
    adds : (count : ℕ) (text line : List ℕ) → PartialLines count text → IsPartialLine line → PartialLines (suc count) (text ++ line)

  -- The line of a leaf, or an empty text, was appended.
  abbrev pub AddsLine : PageValue → PageValue → Type 0
  AddsLine old new = (line : List ℕ) × ((line ≡ []) ⊎ IsPartialLine line) × Gains line old new

  -- At most eight lines of leaves, and then perhaps the number of other leaves.
  pub record ArePartialLines (text : List ℕ) : Type 0 where
    pub count : ℕ
    pub few : count ≤ shown
    pub lines : List ℕ
    pub are : PartialLines count lines
    pub rest : List ℕ
    pub is : text ≡ lines ++ rest

  -- The text is empty; or a match attempt from the offset finds an error, and the text has the
  -- lines of leaves.
  abbrev pub IsPartialText : CodeValue → List ℕ → Type 0
  IsPartialText code text = (text ≡ []) ⊎ ((to : ℕ) × CodeFinds code input from (failed to) × ArePartialLines text)

-- The lines of a report: those that begin a fault or a warning or name a location, and asides.
use Rattle.std.specs.Prelude.{◌≡◌, ◌++◌, ◌||◌, ◌==◌, not, ℕ, Bool, true, IsTrue, List, [], ◌∷◌, codes}
use Rattle.std.specs.Int.{is_in_range}
use Rattle.std.specs.List.{list_all}
use Rattle.logos_page.specs.declared.page.Style.TheVariants.{Frame}
use Rattle.logos_page.specs.Pages.{PageValue, begun, times}

-- Whether no byte of a text is a line feed.
abbrev pub is_in_line : List ℕ → Bool
is_in_line text = list_all (λ byte. not (byte == 10)) text

-- No byte of a text is a line feed.
abbrev pub IsInLine : List ℕ → Type 0
IsInLine text = is_in_line text ≡ true

-- A text that ends a line.
pub record EndsLine (text : List ℕ) : Type 0 where
  pub front : List ℕ
  pub is : text ≡ front ++ codes "\n"
  pub line : IsInLine front

-- Whether a line under a fault begins with this byte: with the bar of the margin, the sign of a
-- note or a help, the first digit of the number of a line, or the dots in place of lines.
abbrev pub is_mark : ℕ → Bool
is_mark byte = ((byte == 124) || (byte == 61)) || ((byte == 46) || is_in_range 48 57 byte)

-- The beginning of a line under a fault: after blanks and the colors of a frame, if there are
-- colors, its first byte is a mark.
pub record BeginsAside (is_colored : Bool) (text : List ℕ) : Type 0 where
  pub blanks : ℕ
  pub mark : ℕ
  pub rest : List ℕ
  pub is : text ≡ times blanks (codes " ") ++ (begun is_colored Frame ++ mark ∷ rest)
  pub marks : is_mark mark ≡ true
  pub line : IsInLine rest

-- Whole lines under a fault, and empty lines. None of them begins a fault or a warning, or names a
-- location.
pub data AreAsides (is_colored : Bool) : List ℕ → Type 0 where
  none : AreAsides is_colored []
  empty : (rest : List ℕ) → AreAsides is_colored rest → AreAsides is_colored (10 ∷ rest)
  aside : (line rest : List ℕ) → BeginsAside is_colored line → AreAsides is_colored rest → AreAsides is_colored (line ++ 10 ∷ rest)

-- A report has exactly these lines, in order, each after blanks. Around them are only asides.
abbrev pub InReport : Bool → List (List ℕ) → List ℕ → Type 0
InReport is_colored [] whole = AreAsides is_colored whole
InReport is_colored (line ∷ lines) whole =
    (before : List ℕ) × (blanks : ℕ) × (after : List ℕ) × (whole ≡ before ++ (times blanks (codes " ") ++ (line ++ after))) × AreAsides is_colored before × InReport is_colored lines after

-- Bytes with a property were appended, unless bytes were lost.
pub record Adds (P : List ℕ → Type 0) (old new : PageValue) : Type 0 where
  pub colored : new.is_colored ≡ old.is_colored
  pub whole : IsTrue new.is_whole → IsTrue old.is_whole × ((added : List ℕ) × (new.text ≡ old.text ++ added) × P added)

-- A report with exactly these lines was appended, unless bytes were lost.
pub record Shows (lines : List (List ℕ)) (old new : PageValue) : Type 0 where
  pub colored : new.is_colored ≡ old.is_colored
  pub whole : IsTrue new.is_whole → IsTrue old.is_whole × ((added : List ℕ) × (new.text ≡ old.text ++ added) × InReport old.is_colored lines added)

-- The beginning of a line under a fault was appended, unless bytes were lost.
abbrev pub Begins : PageValue → PageValue → Type 0
Begins old new = Adds (BeginsAside old.is_colored) old new

-- A part of a line was appended, unless bytes were lost.
abbrev pub Continues : PageValue → PageValue → Type 0
Continues old new = Adds IsInLine old new

-- The end of a line was appended, unless bytes were lost.
abbrev pub Ends : PageValue → PageValue → Type 0
Ends old new = Adds EndsLine old new

-- Texts to which parts are appended, and the texts that occur in them.
use Rattle.std.specs.Prelude.{◌≡◌, ℕ, zero, suc, List, [], ◌∷◌, ◌++◌, Bool, true, false, IsTrue, codes}
use Rattle.logos_page.specs.declared.page.Style.{Style}
use Rattle.logos_page.specs.declared.page.Style.TheVariants.{Error, Warning, Frame, Strong}

-- The view of a page: its text, whether it has colors, and whether nothing was lost.
pub record PageValue : Type 0 where
  pub text : List ℕ
  pub is_colored : Bool
  pub is_whole : Bool

-- The texts occur in the whole, one after another and without overlap.
abbrev pub OccurInOrder : List (List ℕ) → List ℕ → Type 0
OccurInOrder [] whole = Unit {0}
OccurInOrder (text ∷ texts) whole = (before after : List ℕ) × (whole ≡ before ++ (text ++ after)) × OccurInOrder texts after

-- Exactly these bytes were appended, unless bytes were lost.
pub record Gains (bytes : List ℕ) (old new : PageValue) : Type 0 where
  pub colored : new.is_colored ≡ old.is_colored
  pub whole : IsTrue new.is_whole → IsTrue old.is_whole × (new.text ≡ old.text ++ bytes)

-- A text was appended in which these texts occur in order.
pub record Adds (texts : List (List ℕ)) (old new : List ℕ) : Type 0 where
  pub added : List ℕ
  pub is : new ≡ old ++ added
  pub occur : OccurInOrder texts added

-- The appended text shows these texts in order, unless bytes were lost.
pub record Shows (texts : List (List ℕ)) (old new : PageValue) : Type 0 where
  pub colored : new.is_colored ≡ old.is_colored
  pub whole : IsTrue new.is_whole → IsTrue old.is_whole × Adds texts old.text new.text

-- A text `count` times.
abbrev pub times : ℕ → List ℕ → List ℕ
times zero text = []
times (suc count) text = times count text ++ text

-- The escape sequence that begins a part of a style on a terminal.
abbrev pub style_text : Style → List ℕ
style_text Error = 27 ∷ codes "[1;31m"
style_text Warning = 27 ∷ codes "[1;33m"
style_text Frame = 27 ∷ codes "[1;34m"
style_text Strong = 27 ∷ codes "[1m"

-- The beginning of a part of a style, with or without colors.
abbrev pub begun : Bool → Style → List ℕ
begun true style = style_text style
begun false style = []

-- The end of a part, with or without colors.
abbrev pub ended : Bool → List ℕ
ended true = 27 ∷ codes "[0m"
ended false = []

-- A text in a style, with or without colors.
abbrev pub painted : Bool → Style → List ℕ → List ℕ
painted is_colored style text = begun is_colored style ++ (text ++ ended is_colored)

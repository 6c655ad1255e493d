-- Texts that are parts of a text.
use Rattle.std.specs.Prelude.{◌≡◌, ℕ, List, [], ◌∷◌, ◌++◌}

-- The texts are parts of the whole, one after another and without overlap.
abbrev pub OccurInOrder : List (List ℕ) → List ℕ → Type 0
OccurInOrder [] whole = Unit {0}
OccurInOrder (text ∷ texts) whole = (before after : List ℕ) × (whole ≡ before ++ (text ++ after)) × OccurInOrder texts after

-- The old text is a prefix of the new one, and the texts are parts of the appended part, in order.
pub record Adds (texts : List (List ℕ)) (old new : List ℕ) : Type 0 where
  pub added : List ℕ
  pub is : new ≡ old ++ added
  pub occur : OccurInOrder texts added

-- The old text is a prefix of the new one, and nothing is promised about the appended part.
abbrev pub Grows : List ℕ → List ℕ → Type 0
Grows = Adds []

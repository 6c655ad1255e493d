-- Lines that are cut to the width of a screen.
use Rattle.std.specs.Prelude.{◌≡◌, ◌⊎◌, ℕ, List, [], ◌∷◌, Option, IsSome, take}

-- The mark at the end of a line that is cut: U+2026 in UTF-8.
abbrev pub cut_mark : List ℕ
cut_mark = 0xE2 ∷ 0x80 ∷ 0xA6 ∷ []

-- The text is a front of the line, and has the mark of a cut.
abbrev pub IsCutFront : List ℕ → List ℕ → List ℕ → Type 0
IsCutFront line text mark = ((n : ℕ) × (text ≡ take n line)) × (mark ≡ cut_mark)

-- The text is the whole line, and has no mark; or there is a width, and the line is cut.
abbrev pub IsFront : List ℕ → Option ℕ → List ℕ → List ℕ → Type 0
IsFront line width text mark = ((text ≡ line) × (mark ≡ [])) ⊎ (IsSome width × IsCutFront line text mark)

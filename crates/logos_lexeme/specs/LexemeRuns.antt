-- Byte offsets that steps reach from a byte offset.
use Rattle.std.specs.Prelude.{◌≡◌, ℕ, ◌<◌, ◌≤◌, List, length, IsTrue, Bool}
use Rattle.logos_lexeme.specs.LexemeCharacters.{character, past}

-- Steps lead from one byte offset to another.
pub data Steps (Step : ℕ → ℕ → Type 0) : ℕ → ℕ → Type 0 where
  here : {at : ℕ} → Steps Step at at
  step : {at mid to : ℕ} → Step at mid → Steps Step mid to → Steps Step at to

-- Steps lead to a byte offset that has the property `Stop`.
pub record Until (Step : ℕ → ℕ → Type 0) (Stop : ℕ → Type 0) (from to : ℕ) : Type 0 where
  pub steps : Steps Step from to
  pub stop : Stop to

-- No step leads on from a byte offset.
abbrev pub IsLast : (ℕ → ℕ → Type 0) → ℕ → Type 0
IsLast Step at = (next : ℕ) → Step at next → ⊥

-- Steps lead to an offset from which no step leads on.
abbrev pub Run : (ℕ → ℕ → Type 0) → ℕ → ℕ → Type 0
Run Step from to = Until Step (IsLast Step) from to

-- `to` is the first byte offset from `from` on that has the property `P`.
pub record IsFirst (P : ℕ → Type 0) (from to : ℕ) : Type 0 where
  pub begun : from ≤ to
  pub holds : P to
  pub first : (at : ℕ) → from ≤ at → at < to → P at → ⊥

-- One step over a character that passes a test.
pub record Passes (test : ℕ → Bool) (bytes : List ℕ) (at next : ℕ) : Type 0 where
  pub inside : at < length bytes
  pub passes : IsTrue (test (character bytes at))
  pub moves : next ≡ past bytes at

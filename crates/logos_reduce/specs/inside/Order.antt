-- An order while it grows.
use Rattle.std.specs.Prelude.{◌≡◌, ◌+◌, ℕ, List, slice_index}

-- The visited states keep their indexes.
pub record Grows (old new : List ℕ) : Type 0 where
  pub keeps : (t i : ℕ) → slice_index old t ≡ i + 1 → slice_index new t ≡ i + 1

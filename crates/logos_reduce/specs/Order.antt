-- States in the order in which they are visited.
use Rattle.std.specs.Prelude.{◌≡◌, ◌+◌, ◌<◌, ℕ, List, length, slice_index}

-- The numbers are one more than the indexes in the order, and 0 for a state that is not in it.
pub record IsOrder (numbers states : List ℕ) : Type 0 where
  pub placed : (i : ℕ) → i < length states →
      (slice_index states i < length numbers) × (slice_index numbers (slice_index states i) ≡ i + 1)
  pub named : (s i : ℕ) → slice_index numbers s ≡ i + 1 →
      (i < length states) × (slice_index states i ≡ s)

-- The state is in the order.
abbrev pub IsMet : List ℕ → ℕ → Type 0
IsMet numbers s = 0 < slice_index numbers s

-- Sets of positions, as ascending lists.
use Rattle.std.specs.Prelude.{◌≡◌, ℕ, ◌<◌, ◌≤◌, List, length, slice_index}

-- Each position is less than the next.
pub record IsRising (xs : List ℕ) : Type 0 where
  pub rise : (i j : ℕ) → i < j → j < length xs → slice_index xs i < slice_index xs j

-- The position is in the list.
pub record Has (xs : List ℕ) (q : ℕ) : Type 0 where
  pub at : ℕ
  pub within : at < length xs
  pub is : slice_index xs at ≡ q

-- The positions from `from` on begin at the index `i`.
pub record IsFirstFrom (xs : List ℕ) (from i : ℕ) : Type 0 where
  pub within : i ≤ length xs
  pub below : (k : ℕ) → k < i → slice_index xs k < from
  pub above : (k : ℕ) → i ≤ k → k < length xs → from ≤ slice_index xs k

-- A position from `from` on and below `to` is in the list.
pub record HasBetween (xs : List ℕ) (from to : ℕ) : Type 0 where
  pub position : ℕ
  pub low : from ≤ position
  pub high : position < to
  pub has : Has xs position

-- A set of positions below `n`.
pub record IsSet (xs : List ℕ) (n : ℕ) : Type 0 where
  pub rising : IsRising xs
  pub below : (k : ℕ) → k < length xs → slice_index xs k < n

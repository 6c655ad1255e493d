-- Rows of targets.
use Rattle.std.specs.Prelude.{◌≡◌, ◌<◌, ◌≤◌, ℕ, zero, suc, List, [], map, length, Option, Some, None, slice_index, slice_index_or}

-- The target of an entry of a row: 0 is no target, and any other entry is one more than the state.
abbrev pub target_of : ℕ → Option ℕ
target_of zero = None
target_of (suc t) = Some t

-- The target of a row on a symbol, which is a byte, or 256 for the end.
abbrev pub target_by : List ℕ → ℕ → Option ℕ
target_by row k = target_of (slice_index row k)

-- The rows at these indexes among the distinct rows.
abbrev pub rows_at : List ℕ → List (List ℕ) → List (List ℕ)
rows_at slots distinct = map (λ slot. slice_index_or distinct slot []) slots

-- The target of a state on a symbol.
abbrev pub target_in : List (List ℕ) → ℕ → ℕ → Option ℕ
target_in rows s k = target_by (slice_index_or rows s []) k

-- All entries of a row from one index up to another are equal to `entry`.
abbrev pub HasOnly : List ℕ → ℕ → ℕ → ℕ → Type 0
HasOnly row from to entry = (k : ℕ) → from ≤ k → k < to → slice_index row k ≡ entry

-- Two rows have equal entries from one index up to another.
abbrev pub AreSame : List ℕ → List ℕ → ℕ → ℕ → Type 0
AreSame row other from to = (k : ℕ) → from ≤ k → k < to → slice_index row k ≡ slice_index other k

-- No edge leaves the set of the first `n` states.
abbrev pub IsClosed : ℕ → List (List ℕ) → Type 0
IsClosed n rows = (s k t : ℕ) → s < n → target_in rows s k ≡ Some t → t < n

-- Each row has an entry for each symbol.
abbrev pub AreWide : List (List ℕ) → Type 0
AreWide rows = (i : ℕ) → i < length rows → length (slice_index_or rows i []) ≡ 257

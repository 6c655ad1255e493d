-- The targets of an automaton's states.
use Rattle.std.specs.Prelude.{◌≡◌, ℕ, ◌<◌, List, [], length, slice_index, slice_index_or}

-- Each row has a target for each byte.
abbrev pub AreByteRows : List (List ℕ) → Type 0
AreByteRows rows = (i : ℕ) → i < length rows → length (slice_index_or rows i []) ≡ 256

-- Each target for a byte is one of `n` states.
abbrev pub LeadWithin : List (List ℕ) → ℕ → Type 0
LeadWithin rows n = (i x : ℕ) → i < length rows → x < 256 → slice_index (slice_index_or rows i []) x < n

-- Each target for the end is one of `n` states.
abbrev pub EndWithin : List ℕ → ℕ → Type 0
EndWithin ends n = (i : ℕ) → i < length ends → slice_index ends i < n

-- Ranges of bytes, or of characters.
use Rattle.std.specs.Prelude.{ℕ, Bool, List, ◌&&◌, nat_le}
use Rattle.std.specs.List.{list_any}

-- The number is in one of the ranges, which include their last numbers.
abbrev pub is_in : List (ℕ × ℕ) → ℕ → Bool
is_in ranges b = list_any (λ r. nat_le r.0 b && nat_le b r.1) ranges

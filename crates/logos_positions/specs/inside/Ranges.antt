-- Ranges of characters, or of offsets in a block.
use Rattle.std.specs.Prelude.{◌≡◌, ℕ, ◌+◌, ◌<◌, ◌≤◌, Bool, false, ◌&&◌, ◌||◌, List, [], ◌∷◌, Option, nat_le}
use Rattle.std.specs.Option.{MatchOption}
use Rattle.logos_positions.specs.declared.characters.ranges.CharRange.{CharRange}

-- The number is in the range.
abbrev pub in_range : CharRange → ℕ → Bool
in_range r c = nat_le r.first c && nat_le c r.last

-- The number is in one of the ranges.
abbrev pub in_ranges : List CharRange → ℕ → Bool
in_ranges [] c = false
in_ranges (r ∷ rs) c = in_range r c || in_ranges rs c

-- The number at an offset, from `floor` on, passes the test.
abbrev pub from_floor : (ℕ → Bool) → ℕ → ℕ → ℕ → Bool
from_floor has floor start o = nat_le floor (start + o) && has (start + o)

-- A non-empty range of offsets below `n`.
abbrev pub IsPart : ℕ → CharRange → Type 0
IsPart n r = (r.first ≤ r.last) × (r.last < n)

-- Non-empty ranges of offsets below `n`.
abbrev pub AreParts : ℕ → List CharRange → Type 0
AreParts n [] = Unit {0}
AreParts n (r ∷ rs) = IsPart n r × AreParts n rs

-- The result is the range of the offsets below `n` whose numbers are in `r`, or `None` if there are
-- none.
abbrev pub ClipsTo : ℕ → ℕ → ℕ → CharRange → Option CharRange → Type 0
ClipsTo floor start n r result =
    MatchOption result ((o : ℕ) → o < n → from_floor (in_range r) floor start o ≡ false)
    (λ s. IsPart n s × ((o : ℕ) → o < n → in_range s o ≡ from_floor (in_range r) floor start o))

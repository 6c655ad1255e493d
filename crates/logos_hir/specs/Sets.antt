-- Sets of characters and of bytes, and the ranges that represent them.
use Rattle.std.specs.Prelude.{◌≡◌, ℕ, zero, suc, ◌+◌, Bool, true, false, not, ◌&&◌, ◌||◌, ◌==◌, nat_le, List, [], ◌∷◌, if◌then◌else◌}
use lib.Utf8.{scalar}

-- A set of characters or of bytes, as the test of its members.
abbrev pub Set : Type 0
Set = ℕ → Bool

-- ---- operations.

-- The members of either set.
abbrev pub union : Set → Set → Set
union a b c = a c || b c

-- The members of both sets.
abbrev pub intersection : Set → Set → Set
intersection a b c = a c && b c

-- The members of the first set that are not in the second.
abbrev pub difference : Set → Set → Set
difference a b c = a c && not (b c)

-- The members of exactly one of the two sets.
abbrev pub symmetric_difference : Set → Set → Set
symmetric_difference a b c = if a c then not (b c) else b c

-- The characters among the members.
abbrev pub only_chars : Set → Set
only_chars set c = scalar c && set c

-- The characters up to the last one that are not members.
abbrev pub complement : ℕ → Set → Set
complement last set c = scalar c && (nat_le c last && not (set c))

-- ---- ranges, each with its first and its last number.

-- The numbers in a range, with both of its ends.
abbrev pub in_range : ℕ × ℕ → Set
in_range r c = nat_le r.0 c && nat_le c r.1

-- The numbers in one of the ranges.
abbrev pub in_ranges : List (ℕ × ℕ) → Set
in_ranges [] c = false
in_ranges (r ∷ rest) c = in_range r c || in_ranges rest c

-- The characters in the ranges.
abbrev pub members : List (ℕ × ℕ) → Set
members ranges = only_chars (in_ranges ranges)

-- The character after a character: there is none between U+D7FF and U+E000.
abbrev pub next : ℕ → ℕ
next c = if c == 0xD7FF then 0xE000 else c + 1

-- Both ends are characters, in order.
abbrev pub is_range : ℕ × ℕ → Bool
is_range r = (scalar r.0 && scalar r.1) && nat_le r.0 r.1

-- Each pair is a range. The first begins at or after `n`, and each other one after the character
-- that follows the range before it.
abbrev pub rises_from : ℕ → List (ℕ × ℕ) → Bool
rises_from n [] = true
rises_from n (r ∷ rest) = (nat_le n r.0 && is_range r) && rises_from (next r.1 + 1) rest

-- Ranges of characters, in ascending order, with a character between any two.
abbrev pub AreCanonical : List (ℕ × ℕ) → Type 0
AreCanonical ranges = rises_from 0 ranges ≡ true

-- ---- the ranges of a set, as few as possible.

-- A number before ranges that start after it: it extends the first range, or is a range of its own.
abbrev pub with_number : ℕ → List (ℕ × ℕ) → List (ℕ × ℕ)
with_number c [] = (c, c) ∷ []
with_number c (r ∷ rest) = if next c == r.0 then (c, r.1) ∷ rest else (c, c) ∷ r ∷ rest

-- The ranges of the members among the `n` numbers from `c` on.
unfoldable pub ranges_from : ℕ → ℕ → Set → List (ℕ × ℕ)
ranges_from c zero set = []
ranges_from c (suc n) set =
    if set c then with_number c (ranges_from (c + 1) n set) else ranges_from (c + 1) n set

-- The ranges of the characters of a set.
unfoldable pub char_ranges : Set → List (ℕ × ℕ)
char_ranges set = ranges_from 0 0x11_0000 (only_chars set)

-- The ranges of the bytes of a set.
unfoldable pub byte_ranges : Set → List (ℕ × ℕ)
byte_ranges set = ranges_from 0 256 (only_chars set)

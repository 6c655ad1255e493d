-- Definitions for the steps of the operations on ranges.
use Rattle.std.specs.Prelude.{◌≡◌, ℕ, ◌+◌, true, ◌&&◌, ◌||◌, ◌==◌, nat_le, nat_lt, List, [], ◌∷◌}
use Rattle.std.specs.List.{list_all}
use lib.Utf8.{scalar}
use Rattle.logos_hir.specs.Sets.{Set, next, is_range, in_ranges}

-- A character, or the number after the last one.
abbrev pub IsLimit : ℕ → Type 0
IsLimit c = (scalar c || (c == 0x11_0000)) ≡ true

-- Ranges of characters, in any order.
abbrev pub AreRanges : List (ℕ × ℕ) → Type 0
AreRanges ranges = list_all is_range ranges ≡ true

-- The least number at which another range may start, after ranges that start at or after `n`.
abbrev pub free_from : ℕ → List (ℕ × ℕ) → ℕ
free_from n [] = n
free_from n (r ∷ rest) = free_from (next r.1 + 1) rest

-- The numbers from `first` up to but not including `end`, and not after `last`.
abbrev pub in_gap : ℕ → ℕ → ℕ → Set
in_gap first end last c = nat_le first c && (nat_lt c end && nat_le c last)

-- The numbers in the new ranges are those in the old ones, together with the members of the set.
abbrev pub Adds : List (ℕ × ℕ) → List (ℕ × ℕ) → Set → Type 0
Adds old new set = (c : ℕ) → in_ranges new c ≡ (in_ranges old c || set c)

-- The characters in the new ranges are those in the old ones, together with the characters of the
-- set.
abbrev pub AddsCharacters : List (ℕ × ℕ) → List (ℕ × ℕ) → Set → Type 0
AddsCharacters old new set = (c : ℕ) → scalar c ≡ true → in_ranges new c ≡ (in_ranges old c || set c)

-- The characters in the ranges are those of the set.
abbrev pub HasCharacters : List (ℕ × ℕ) → Set → Type 0
HasCharacters ranges set = (c : ℕ) → scalar c ≡ true → in_ranges ranges c ≡ set c

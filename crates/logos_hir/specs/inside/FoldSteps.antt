-- Definitions for the steps of folding.
use Rattle.std.specs.Prelude.{ℕ, ◌+◌, ◌-◌, ◌&&◌, ◌==◌, nat_le, List}
use Rattle.std.specs.List.{list_any}
use Rattle.logos_hir.specs.Sets.{Set}

-- Some pair has this number as its second one.
abbrev pub in_values : List (ℕ × ℕ) → Set
in_values table c = list_any (λ p. p.1 == c) table

-- Some pair has a member as its first number and this number as its second one.
abbrev pub in_image : List (ℕ × ℕ) → Set → Set
in_image table set c = list_any (λ p. set p.0 && (p.1 == c)) table

-- The members from `first` to `last`, moved so that `first` becomes `to`.
abbrev pub shift : ℕ → ℕ → ℕ → Set → Set
shift first last to set c = (nat_le to c && nat_le c (to + (last - first))) && set (c - to + first)

-- Patterns that are combined in pairs.
use Rattle.std.specs.Prelude.{◌≡◌, ℕ, ◌+◌, ◌≤◌, Bool, true, false, ◌||◌, ◌&&◌, nat_le, List, [], ◌∷◌, ◌++◌}
use Rattle.logos_hir.specs.Tree.{Trees, none, also}
use Rattle.logos_hir.specs.declared.hir.Range.{Range}
use Rattle.logos_positions.specs.Core.{Core, void, empty, byte_in, cat, alt}
use Rattle.logos_positions.specs.IsCore.{IsCoreOf}

-- One pattern after the other if the flag is `true`, and the choice of the two otherwise.
abbrev pub pair_up : Bool → Core → Core → Core
pair_up true = cat
pair_up false = alt

-- The combination of no patterns.
abbrev pub of_none : Bool → Core
of_none true = empty
of_none false = void

-- The number is in the range.
abbrev pub is_within : Range → ℕ → Bool
is_within r x = nat_le r.first x && nat_le x r.last

-- No number is between the ranges.
abbrev pub AreNear : Range → Range → Type 0
AreNear r s = (r.first ≤ s.last + 1) × (s.first ≤ r.last + 1)

-- Both patterns are classes of bytes, and `has` is the union of the two classes.
pub record IsEither (a b : Core) (has : ℕ → Bool) : Type 0 where
  pub first : ℕ → Bool
  pub second : ℕ → Bool
  pub first_is : a ≡ byte_in first
  pub second_is : b ≡ byte_in second
  pub either : (x : ℕ) → has x ≡ (first x || second x)

-- Two patterns combined. The choice of two classes of bytes may be one class.
pub data IsPair (in_order : Bool) (a b : Core) : Core → Type 0 where
  apart : IsPair in_order a b (pair_up in_order a b)
  as_class : (has : ℕ → Bool) → in_order ≡ false → IsEither a b has → IsPair in_order a b (byte_in has)

-- The patterns, combined in pairs in this order.
pub data IsJoined (in_order : Bool) : List Core → Core → Type 0 where
  from_none : IsJoined in_order [] (of_none in_order)
  from_one : (c : Core) → IsJoined in_order (c ∷ []) c
  from_two : (xs ys : List Core) (a b c : Core) → IsJoined in_order xs a → IsJoined in_order ys b → IsPair in_order a b c → IsJoined in_order (xs ++ ys) c

-- Each pattern is the core pattern of its tree.
abbrev pub AreCoresOf : Trees → List Core → Type 0
AreCoresOf none [] = Unit {0}
AreCoresOf none (c ∷ cs) = ⊥
AreCoresOf (also t ts) [] = ⊥
AreCoresOf (also t ts) (c ∷ cs) = IsCoreOf t c × AreCoresOf ts cs

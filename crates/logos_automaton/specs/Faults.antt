-- The faults of a list of rules.
use Rattle.std.specs.Prelude.{◌≡◌, ℕ, ◌<◌, ◌↔◌, ◌⊎◌, Bool, List, [], ◌∷◌, map, Contains, IsSomeAnd, IsTrue, IsFalse, MatchBool, slice_get}
use Rattle.std.specs.List.{list_any}
use Rattle.std.specs.List.Sorted.{IsStrictlyIncreasing}
use Rattle.logos_hir.specs.Passable.{passable, leads}
use Rattle.logos_automaton.specs.Munch.{Rule}
use Rattle.logos_automaton.specs.Ambiguity.{IsAmbiguous}

-- A fault of rules, by the numbers of its rules.
pub data Fault : Type 0 where
  -- Some tree can have a look-around assertion before its first byte.
  no_universal_start : Fault
  -- The leaf can match the empty string.
  empty_match : ℕ → Fault
  -- Length and priority do not distinguish these leaves.
  disambiguation : List ℕ → Fault

-- The first list is less than the second in lexicographic order.
abbrev pub IsBefore : List ℕ → List ℕ → Type 0
IsBefore [] [] = ⊥
IsBefore [] (y ∷ ys) = Unit {0}
IsBefore (x ∷ xs) [] = ⊥
IsBefore (x ∷ xs) (y ∷ ys) = (x < y) ⊎ ((x ≡ y) × IsBefore xs ys)

-- Each list is less than the next.
abbrev pub Ascends : List (List ℕ) → Type 0
Ascends [] = Unit {0}
Ascends (xs ∷ []) = Unit {0}
Ascends (xs ∷ ys ∷ rest) = IsBefore xs ys × Ascends (ys ∷ rest)

-- Some tree can have a look-around assertion before its first byte.
abbrev pub some_leads : List Rule → Bool
some_leads rules = list_any (λ rule. leads rule.tree) rules

-- Some tree matches the empty string.
abbrev pub some_passable : List Rule → Bool
some_passable rules = list_any (λ rule. passable rule.tree) rules

-- No tree matches the empty string or has a look-around assertion before its first byte.
abbrev pub AllStart : List Rule → Type 0
AllStart rules = IsFalse (some_leads rules) × IsFalse (some_passable rules)

-- The leaves whose trees match the empty string, in ascending order.
pub record ArePassable (rules : List Rule) (leaves : List ℕ) : Type 0 where
  pub ascending : IsStrictlyIncreasing leaves
  pub exactly : (leaf : ℕ) → Contains leaves leaf ↔ IsSomeAnd (slice_get rules leaf) (λ rule. IsTrue (passable rule.tree))

-- All ambiguous sets, in ascending order.
pub record AreAmbiguous (rules : List Rule) (sets : List (List ℕ)) : Type 0 where
  pub ascending : Ascends sets
  pub exactly : (set : List ℕ) → Contains sets set ↔ IsAmbiguous rules set

-- The faults: only the missing universal start if there is one, otherwise only the empty matches if
-- there are any, and otherwise the ambiguous sets.
abbrev pub AreFaults : List Rule → List Fault → Type 0
AreFaults rules faults =
    MatchBool (some_leads rules) (faults ≡ no_universal_start ∷ [])
    (MatchBool (some_passable rules) ((leaves : List ℕ) × ArePassable rules leaves × (faults ≡ map empty_match leaves))
    ((sets : List (List ℕ)) × AreAmbiguous rules sets × (faults ≡ map disambiguation sets)))

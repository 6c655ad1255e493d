-- Vectors of lists of states, with one list for each state or block.
use Rattle.std.specs.Prelude.{◌≡◌, ◌<◌, ◌==◌, All, ℕ, zero, suc, Bool, true, false, List, [], ◌∷◌, Vec, Option, Some}
use Rattle.std.specs.List.{list_any}
use Rattle.std.specs.List.Sorted.{IsStrictlyIncreasing}
use Rattle.std.specs.declared.alloc.Global.{Global}

-- The list contains the number.
abbrev pub has : List ℕ → ℕ → Bool
has xs s = list_any (λ x. s == x) xs

-- The list at an index contains the number.
abbrev pub has_in : List (Vec ℕ Global) → ℕ → ℕ → Bool
has_in [] b s = false
has_in (v ∷ vs) zero s = has v.items s
has_in (v ∷ vs) (suc b) s = has_in vs b s

-- For each state, the lists contain those of the first `n` states that lead to it on one of the
-- first symbols.
pub record ArePredecessors (n width : ℕ) (to : ℕ → ℕ → Option ℕ)
    (lists : List (Vec ℕ Global)) : Type 0 where
  pub all : (s k t : ℕ) → s < n → k < width → to s k ≡ Some t → has_in lists t s ≡ true
  pub only : (t s : ℕ) → has_in lists t s ≡ true → (k : ℕ) × (k < width) × (to s k ≡ Some t)

-- Numbers below `n`, ascending and without duplicates.
pub record Rises (n : ℕ) (xs : List ℕ) : Type 0 where
  pub ascending : IsStrictlyIncreasing xs
  pub below : All (λ x. x < n) xs

-- Each of the lists contains numbers below `n`, ascending and without duplicates.
pub record AreRising (n : ℕ) (lists : List (Vec ℕ Global)) : Type 0 where
  pub each : All (λ v. Rises n v.items) lists

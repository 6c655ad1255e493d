-- Steps on several patterns, whose positions are numbered consecutively.
use Rattle.std.specs.Prelude.{ℕ, ◌+◌, ◌-◌, ◌<◌, ◌≤◌, ◌≡◌, ◌⊎◌, ◌↔◌, Bool, false, IsTrue, List, length, map, drop, slice_index}
use Rattle.logos_positions.specs.Core.{Core, width, Exits, Steps}
use Rattle.logos_positions.specs.Marks.{Has, IsSet}
use Rattle.logos_positions.specs.Node.{core_of}
use Rattle.logos_positions.specs.Run.{width_of, StepsIn, ExitsIn}
use Rattle.logos_positions.specs.declared.node.Node.{Node}
use Rattle.logos_hir.specs.declared.hir.Look.{Look}

-- Of the positions of the pattern `t` from `base` on, exactly these read the byte `x`, and `left`
-- is whether `t` can be left here. The pattern is not entered here.
pub record IsStepOf (t : Core) (test : Look → Bool) (x : ℕ) (marks : List ℕ) (base : ℕ) (positions : List ℕ) (left : Bool) : Type 0 where
  pub set : IsSet positions (base + width t)
  pub has : (q : ℕ) → Has positions q ↔ ((base ≤ q) × Steps t test x (λ p. Has marks (base + p)) (IsTrue false) (q - base))
  pub leaves : IsTrue left ↔ Exits t test (λ p. Has marks (base + p)) (IsTrue false)

-- Exactly these positions read the byte `x`.
pub record ReadBy (ts : List Core) (test : Look → Bool) (x : ℕ) (M : ℕ → Type 0) (entered : Type 0) (positions : List ℕ) : Type 0 where
  pub set : IsSet positions (width_of ts)
  pub has : (q : ℕ) → Has positions q ↔ StepsIn ts test x M entered q

-- Exactly the patterns with these numbers can be left here.
pub record LeftBy (ts : List Core) (test : Look → Bool) (M : ℕ → Type 0) (entered : Type 0) (numbers : List ℕ) : Type 0 where
  pub set : IsSet numbers (length ts)
  pub has : (k : ℕ) → Has numbers k ↔ ExitsIn ts k test M entered

-- Exactly these positions read the byte `x`, once the patterns `rest`, whose positions begin at
-- `base`, have also been stepped on.
pub record OwesPositions (ts rest : List Core) (test : Look → Bool) (x : ℕ) (M : ℕ → Type 0) (entered : Type 0) (base : ℕ) (positions : List ℕ) : Type 0 where
  pub placed : base + width_of rest ≡ width_of ts
  pub set : IsSet positions base
  pub has : (q : ℕ) →
      (Has positions q ⊎ ((base ≤ q) × StepsIn rest test x (λ p. M (base + p)) entered (q - base))) ↔ StepsIn ts test x M entered q

-- Exactly the patterns with these numbers can be left here, once the patterns `rest` from the
-- number `n` on have also been tested.
pub record OwesNumbers (ts rest : List Core) (test : Look → Bool) (M : ℕ → Type 0) (entered : Type 0) (base n : ℕ) (numbers : List ℕ) : Type 0 where
  pub count : n + length rest ≡ length ts
  pub set : IsSet numbers n
  pub has : (k : ℕ) →
      (Has numbers k ⊎ ((n ≤ k) × ExitsIn rest (k - n) test (λ p. M (base + p)) entered)) ↔ ExitsIn ts k test M entered

-- The first positions of the first `n` trees.
pub record AreFirstStarts (nodes : List Node) (starts : List ℕ) (n : ℕ) : Type 0 where
  pub count : length starts ≡ n
  pub begins : (i : ℕ) → i < n → slice_index starts i + width_of (map core_of (drop i nodes)) ≡ width_of (map core_of nodes)

-- The first position of each tree, and the position after the last tree.
abbrev pub AreStarts : List Node → List ℕ → Type 0
AreStarts nodes starts = AreFirstStarts nodes starts (length nodes + 1)

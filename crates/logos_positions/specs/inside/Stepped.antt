-- The effect of a step on a list of positions.
use Rattle.std.specs.Prelude.{◌≡◌, ℕ, ◌+◌, ◌-◌, ◌≤◌, ◌⊎◌, ◌↔◌, Bool, IsTrue, List}
use Rattle.logos_positions.specs.Core.{Core, width, Exits, Steps}
use Rattle.logos_positions.specs.Marks.{Has, IsSet}
use Rattle.logos_hir.specs.declared.hir.Look.{Look}

-- The step from `marks` on the positions of `t`, which begin at `base`, adds to `old` the positions
-- that read the byte `x`. `left` is whether `t` can be left here.
pub record Stepped (t : Core) (test : Look → Bool) (x : ℕ) (marks old new : List ℕ) (base : ℕ) (entered left : Bool) : Type 0 where
  pub set : IsSet new (base + width t)
  pub has : (q : ℕ) → Has new q ↔ (Has old q ⊎ ((base ≤ q) × Steps t test x (λ p. Has marks (base + p)) (IsTrue entered) (q - base)))
  pub leaves : IsTrue left ↔ Exits t test (λ p. Has marks (base + p)) (IsTrue entered)

-- The step on `whole`, where the step on `rest`, whose positions begin at `start`, has not been
-- made yet. `any` is whether the whole can be left without `rest`.
pub record Owes (whole rest : Core) (test : Look → Bool) (x : ℕ) (marks old new : List ℕ) (base start : ℕ) (entered left any : Bool) : Type 0 where
  pub placed : start + width rest ≡ base + width whole
  pub set : IsSet new start
  pub has : (q : ℕ) →
      (Has new q ⊎ ((start ≤ q) × Steps rest test x (λ p. Has marks (start + p)) (IsTrue left) (q - start)))
      ↔ (Has old q ⊎ ((base ≤ q) × Steps whole test x (λ p. Has marks (base + p)) (IsTrue entered) (q - base)))
  pub leaves :
      (IsTrue any ⊎ Exits rest test (λ p. Has marks (start + p)) (IsTrue left))
      ↔ Exits whole test (λ p. Has marks (base + p)) (IsTrue entered)

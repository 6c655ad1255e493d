-- The effect of a function of sets.
use Rattle.std.specs.Prelude.{◌≡◌, ℕ, true}
use lib.Utf8.{scalar}
use Rattle.logos_hir.specs.declared.sets.operands.Effect.{Effect}
use Rattle.logos_hir.specs.Sets.{Set}
use Rattle.logos_hir.specs.RangeSets.{set_of}
use Rattle.logos_hir.specs.Operands.{selection}

-- The effect determines the function: the members that it keeps, and the other characters that it
-- adds.
abbrev pub Makes : Effect → (Set → Set) → Type 0
Makes effect f = (before : Set) (c : ℕ) → scalar c ≡ true → f before c ≡ selection before (set_of effect.inside) (set_of effect.outside) c

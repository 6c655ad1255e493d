-- The steps on copies of one pattern, computed from the step on one of them.
use Rattle.std.specs.Prelude.{◌≡◌, ℕ, zero, suc, ◌+◌, ◌*◌, Bool, List}
use Rattle.logos_positions.specs.Core.{Core, width}
use Rattle.logos_positions.specs.inside.Stepped.{Stepped}
use Rattle.logos_hir.specs.declared.hir.Look.{Look}

-- The steps on `n` copies of `t`, whose positions begin at `start`. Each copy is entered if the one
-- before it is left.
abbrev pub Repeated : Core → (Look → Bool) → ℕ → List ℕ → List ℕ → ℕ → Bool → ℕ → List ℕ → Type 0
Repeated t test x marks old start left zero new = new ≡ old
Repeated t test x marks old start left (suc n) new =
    (mid : List ℕ) × Repeated t test x marks old start left n mid × Stepped t test x marks mid new (start + width t * n) left left

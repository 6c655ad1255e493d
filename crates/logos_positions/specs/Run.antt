-- The positions after each byte, computed by one step for each, for one pattern and for several.
use Rattle.std.specs.Prelude.{◌≡◌, ℕ, zero, suc, ◌+◌, ◌-◌, ◌<◌, ◌≤◌, ◌⊎◌, Bool, List, [], ◌∷◌, Some, slice_get}
use Rattle.logos_positions.specs.Core.{Core, width, holds_at, Exits, Steps}
use Rattle.logos_hir.specs.declared.hir.Look.{Look}

-- The positions that read the last of `m` bytes, for a pattern that begins at 0.
abbrev pub Marked : Core → List ℕ → ℕ → ℕ → Type 0
Marked t bytes zero q = ⊥
Marked t bytes (suc m) q =
    (x : ℕ) × (slice_get bytes m ≡ Some x) × Steps t (holds_at bytes m) x (Marked t bytes m) (m ≡ 0) q

-- The number of positions of all patterns together.
abbrev pub width_of : List Core → ℕ
width_of [] = 0
width_of (t ∷ ts) = width t + width_of ts

-- Position `p` of all patterns can read the byte `x` here, where all are entered or none are.
abbrev pub StepsIn : List Core → (Look → Bool) → ℕ → (ℕ → Type 0) → Type 0 → ℕ → Type 0
StepsIn [] test x M entered p = ⊥
StepsIn (t ∷ ts) test x M entered p =
    ((p < width t) × Steps t test x M entered p)
    ⊎ ((width t ≤ p) × StepsIn ts test x (λ q. M (width t + q)) entered (p - width t))

-- The `k`-th pattern can be left here.
abbrev pub ExitsIn : List Core → ℕ → (Look → Bool) → (ℕ → Type 0) → Type 0 → Type 0
ExitsIn [] k test M entered = ⊥
ExitsIn (t ∷ ts) zero test M entered = Exits t test M entered
ExitsIn (t ∷ ts) (suc k) test M entered = ExitsIn ts k test (λ q. M (width t + q)) entered

-- The positions of all patterns that read the last of `m` bytes.
abbrev pub MarkedIn : List Core → List ℕ → ℕ → ℕ → Type 0
MarkedIn [] bytes m p = ⊥
MarkedIn (t ∷ ts) bytes m p = ((p < width t) × Marked t bytes m p) ⊎ ((width t ≤ p) × MarkedIn ts bytes m (p - width t))

-- Types that exceed the levels.
use Rattle.std.proofs.Common.{◌≡◌, ℕ, ◌+◌, ◌-◌, ◌<◌, ◌≤◌, ◌==◌, ◌||◌, ◌⊎◌, ◌≢◌, inl, inr, max, Bool, true, false, refl, sym, ◌∙◌, arith}
use Rattle.std.proofs.lemmas.Bool.Decides.{eqb_tells}
use Rattle.logos_type.specs.Parts.{Tree, sign, name, whole, still, Trees, none, also}
use Rattle.logos_type.specs.Depth.{depth, depth_of, exceeds, some_exceed}

either_true : (a b : Bool) → (a || b) ≡ true → (a ≡ true) ⊎ (b ≡ true)
either_true true b e = inl refl
either_true false b e = inr e

both_false : (a b : Bool) → (a || b) ≡ false → (a ≡ false) × (b ≡ false)
both_false true b e = cc
both_false false b e = (refl, e)

is_same : (c k : ℕ) → (c == k) ≡ true → c ≡ k
is_same c k e = go (eqb_tells c k)
  where
    go : ((c == k) ≡ true) × (c ≡ k) ⊎ ((c == k) ≡ false) × (c ≢ k) → c ≡ k
    go (inl h) = h.1
    go (inr h) = absurd (let l = sym e ∙ h.0 in cc)

not_same : (c k : ℕ) → (c == k) ≡ false → c ≢ k
not_same c k e = go (eqb_tells c k)
  where
    go : ((c == k) ≡ true) × (c ≡ k) ⊎ ((c == k) ≡ false) × (c ≢ k) → c ≢ k
    go (inl h) = absurd (let l = sym e ∙ h.0 in cc)
    go (inr h) = h.1

at_least_one : (n : ℕ) → (n == 0) ≡ false → 1 ≤ n
at_least_one n e = let h = not_same n 0 e in omega (arith, h)

mutual
  pub exceeds_deeper : (n : ℕ) (t : Tree) → exceeds n t ≡ true → n < depth t
  exceeds_deeper n (sign s) e = cc
  exceeds_deeper n (name text) e = let z = is_same n 0 e in omega (arith, z)
  exceeds_deeper n (whole parts) e = go (either_true (n == 0) (some_exceed (n - 1) parts) e) (λ f. some_deeper (n - 1) parts f)
    where
      go : ((n == 0) ≡ true) ⊎ (some_exceed (n - 1) parts ≡ true) → (some_exceed (n - 1) parts ≡ true → n - 1 < depth_of parts) → n < 1 + depth_of parts
      go (inl z) f = let y = is_same n 0 z in omega (arith, y)
      go (inr h) f = let k = f h in omega (arith, k)
  exceeds_deeper n (still parts) e = some_deeper n parts e

  pub some_deeper : (n : ℕ) (ts : Trees) → some_exceed n ts ≡ true → n < depth_of ts
  some_deeper n none e = cc
  some_deeper n (also t ts) e = go (either_true (exceeds n t) (some_exceed n ts) e) (λ f. exceeds_deeper n t f) (λ f. some_deeper n ts f)
    where
      go : (exceeds n t ≡ true) ⊎ (some_exceed n ts ≡ true) → (exceeds n t ≡ true → n < depth t) → (some_exceed n ts ≡ true → n < depth_of ts) → n < max (depth t) (depth_of ts)
      go (inl z) f g = let k = f z in omega (arith, k)
      go (inr z) f g = let k = g z in omega (arith, k)

mutual
  pub within_depth : (n : ℕ) (t : Tree) → exceeds n t ≡ false → depth t ≤ n
  within_depth n (sign s) e = omega arith
  within_depth n (name text) e = at_least_one n e
  within_depth n (whole parts) e = let h = both_false (n == 0) (some_exceed (n - 1) parts) e in let k = some_within (n - 1) parts h.1 in let l = at_least_one n h.0 in omega (arith, k, l)
  within_depth n (still parts) e = some_within n parts e

  pub some_within : (n : ℕ) (ts : Trees) → some_exceed n ts ≡ false → depth_of ts ≤ n
  some_within n none e = omega arith
  some_within n (also t ts) e = let h = both_false (exceeds n t) (some_exceed n ts) e in let k = within_depth n t h.0 in let l = some_within n ts h.1 in omega (arith, k, l)

pub exceeds_true : (n : ℕ) (t : Tree) → n < depth t → exceeds n t ≡ true
exceeds_true n t d = go (exceeds n t) refl
  where
    go : (b : Bool) → exceeds n t ≡ b → exceeds n t ≡ true
    go true e = e
    go false e = absurd (let k = within_depth n t e in omega (arith, k, d))

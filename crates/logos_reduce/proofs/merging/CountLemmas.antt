-- A finer partition has at least as many blocks, and more if it parts two states that were
-- together.
use Rattle.std.proofs.Common.{◌≡◌, ◌≢◌, ℕ, zero, suc, ◌<◌, ◌≤◌, ◌⊎◌, inl, inr, Bool, true, false, ◌||◌, nat_eq, if◌then◌else◌, refl, sym, ◌∙◌, ap, arith}
use Rattle.std.proofs.lemmas.Bool.{cases_lt}
use Rattle.std.proofs.lemmas.Bool.Decides.{eqb_tells, nat_tests}
use Rattle.logos_reduce.specs.inside.Merge.{IsFiner}
use Rattle.logos_reduce.specs.inside.Count.{sum_below, is_repeated, count_blocks}
use Rattle.logos_reduce.proofs.merging.MergeLemmas.{sum_le, sum_lt}

or_cases : (a b : Bool) → (a || b) ≡ true → (a ≡ true) ⊎ (b ≡ true)
or_cases true b e = inl refl
or_cases false b e = inr e

or_right : (a b : Bool) → b ≡ true → (a || b) ≡ true
or_right true b e = refl
or_right false b e = e

-- an earlier state of the block
repeated_at : (block : ℕ → ℕ) (n s : ℕ) → is_repeated block n s ≡ true → (t : ℕ) × (t < n) × (block t ≡ block s)
repeated_at block zero s e = absurd (cc)
repeated_at block (suc n) s e = go (or_cases (nat_eq (block n) (block s)) (is_repeated block n s) e) (repeated_at block n s)
  where
    here : ((nat_eq (block n) (block s) ≡ true) × (block n ≡ block s)) ⊎ ((nat_eq (block n) (block s) ≡ false) × (block n ≢ block s)) → nat_eq (block n) (block s) ≡ true → block n ≡ block s
    here (inl x) q = x.1
    here (inr x) q = absurd (cc (x.0))

    go : (nat_eq (block n) (block s) ≡ true) ⊎ (is_repeated block n s ≡ true) → (is_repeated block n s ≡ true → (t : ℕ) × (t < n) × (block t ≡ block s)) → (t : ℕ) × (t < suc n) × (block t ≡ block s)
    go (inl q) ih = (n, omega arith, here (eqb_tells (block n) (block s)) q)
    go (inr q) ih = let r = ih q in (r.0, let l = r.1 in omega arith, r.2)

at_repeated : (block : ℕ → ℕ) (n s t : ℕ) → t < n → block t ≡ block s → is_repeated block n s ≡ true
at_repeated block zero s t l e = absurd (omega arith)
at_repeated block (suc n) s t l e = go (eqb_tells t n) (λ m. at_repeated block n s t m e)
  where
    go : ((nat_eq t n ≡ true) × (t ≡ n)) ⊎ ((nat_eq t n ≡ false) × (t ≢ n)) → (t < n → is_repeated block n s ≡ true) → (nat_eq (block n) (block s) || is_repeated block n s) ≡ true
    go (inl q) ih =
        let same : block n ≡ block s = ap block (sym q.1) ∙ e in
        let z : nat_eq (block n) (block s) ≡ true = grind (arith, nat_tests) in
        rw z refl
    go (inr q) ih = or_right (nat_eq (block n) (block s)) (is_repeated block n s) (ih (omega (arith, q.1)))

-- the first state of a block
first_of : (block : ℕ → ℕ) (fuel s : ℕ) → s ≤ fuel → (t : ℕ) × (t ≤ s) × (block t ≡ block s) × (is_repeated block t t ≡ false)
first_of block zero s l = (s, omega arith, refl, none)
  where
    none : is_repeated block s s ≡ false
    none = let e : s ≡ 0 = omega arith in ap (λ (n : ℕ). is_repeated block n n) e
first_of block (suc fuel) s l = go (is_repeated block s s) refl (first_of block fuel)
  where
    go : (b : Bool) → is_repeated block s s ≡ b → ((s : ℕ) → s ≤ fuel → (t : ℕ) × (t ≤ s) × (block t ≡ block s) × (is_repeated block t t ≡ false)) →
        (t : ℕ) × (t ≤ s) × (block t ≡ block s) × (is_repeated block t t ≡ false)
    go false e ih = (s, omega arith, refl, e)
    go true e ih =
        let r = repeated_at block s s e in
        let m = r.1 in
        let f = ih r.0 (omega arith) in
        (f.0, let n = f.1 in omega arith, f.2 ∙ r.2, f.3)

module _ (n : ℕ) (fine block : ℕ → ℕ) (finer : IsFiner n fine block) where
  still_repeated : (s : ℕ) → s < n → is_repeated fine s s ≡ true → is_repeated block s s ≡ true
  still_repeated s l e =
      let r = repeated_at fine s s e in
      let m = r.1 in
      at_repeated block s s r.0 r.1 (finer r.0 s (omega arith) l r.2)

  one_each : (s : ℕ) → s < n → (if is_repeated block s s then 0 else 1) ≤ (if is_repeated fine s s then 0 else 1)
  one_each s l = go (is_repeated block s s) (is_repeated fine s s) (still_repeated s l)
    where
      go : (a b : Bool) → (b ≡ true → a ≡ true) → (if a then 0 else 1) ≤ (if b then 0 else 1)
      go true b h = omega arith
      go false false h = omega arith
      go false true h = absurd (let e = h refl in cc)

  pub blocks_le : count_blocks n block ≤ count_blocks n fine
  blocks_le = sum_le n _ _ one_each

  -- a state whose block has lost its first one
  lost_first : (first s : ℕ) → s < n → first ≤ s → block first ≡ block s → is_repeated block first first ≡ false → fine first ≢ fine s → count_blocks n block < count_blocks n fine
  lost_first first s l m e alone d =
      let f = first_of fine s s (omega arith) in
      let k = f.1 in
      let same : block f.0 ≡ block first = finer f.0 s (omega arith) l f.2 ∙ sym e in
      sum_lt n _ _ one_each f.0 (omega arith) (strict f.0 (at_repeated block f.0 f.0 first (later f.0 k same f.2) (sym same)) f.3)
    where
      order : (a b : ℕ) → (a < b) ⊎ ((b < a) ⊎ (a ≡ b))
      order a b = grind arith

      later : (t : ℕ) → t ≤ s → block t ≡ block first → fine t ≡ fine s → first < t
      later t k same q = go (order first t)
        where
          go : (first < t) ⊎ ((t < first) ⊎ (first ≡ t)) → first < t
          go (inl x) = x
          go (inr (inl x)) = absurd (let z = at_repeated block first first t x same in cc)
          go (inr (inr x)) = absurd (d (ap fine x ∙ q))

      strict : (t : ℕ) → is_repeated block t t ≡ true → is_repeated fine t t ≡ false → (if is_repeated block t t then 0 else 1) < (if is_repeated fine t t then 0 else 1)
      strict t p q = rw (p, q) (omega arith)

  pub blocks_lt : (s t : ℕ) → s < n → t < n → block s ≡ block t → fine s ≢ fine t → count_blocks n block < count_blocks n fine
  blocks_lt s t hs ht e d = go (eqb_tells (fine first) (fine s))
    where
      first : ℕ
      first = (first_of block s s (omega arith)).0

      below : first ≤ s
      below = (first_of block s s (omega arith)).1

      together : block first ≡ block s
      together = (first_of block s s (omega arith)).2

      alone : is_repeated block first first ≡ false
      alone = (first_of block s s (omega arith)).3

      before : (u v : ℕ) → block u ≡ block v → is_repeated block u u ≡ false → u ≤ v
      before u v q a = by (cases_lt v u)
        where
          by : (v < u) ⊎ (u ≤ v) → u ≤ v
          by (inl l) = absurd (let z = at_repeated block u u v l (sym q) in cc)
          by (inr l) = l

      go : ((nat_eq (fine first) (fine s) ≡ true) × (fine first ≡ fine s)) ⊎ ((nat_eq (fine first) (fine s) ≡ false) × (fine first ≢ fine s)) → count_blocks n block < count_blocks n fine
      go (inl q) = lost_first first t ht (before first t (together ∙ e) alone) (together ∙ e) alone (λ z. d (sym q.1 ∙ z))
      go (inr q) = lost_first first s hs below together alone q.1

-- there are not more blocks than states
pub blocks_few : (n : ℕ) (block : ℕ → ℕ) → count_blocks n block ≤ n
blocks_few n block = go n
  where
    one : (b : Bool) → (if b then 0 else 1) ≤ 1
    one true = omega arith
    one false = omega arith

    go : (k : ℕ) → sum_below k (λ s. if is_repeated block s s then 0 else 1) ≤ k
    go zero = omega arith
    go (suc k) = let a = one (is_repeated block k k) in let b = go k in omega arith

pub blocks_some : (n : ℕ) (block : ℕ → ℕ) → 0 < n → 0 < count_blocks n block
blocks_some (suc zero) block l = omega arith
blocks_some (suc (suc n)) block l = let b = blocks_some (suc n) block (omega arith) in omega arith
blocks_some zero block l = absurd (omega arith)

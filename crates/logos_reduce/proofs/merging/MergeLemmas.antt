-- Each split leaves fewer pairs of states in one block.
use Rattle.std.proofs.Common.{◌≡◌, ◌≢◌, ℕ, zero, suc, ◌<◌, ◌≤◌, ◌+◌, ◌⊎◌, inl, inr, Bool, true, false, nat_eq, if◌then◌else◌, subst, arith}
use Rattle.std.proofs.lemmas.Bool.Decides.{eqb_tells, nat_tests}
use Rattle.logos_reduce.specs.inside.Merge.{IsFiner}
use Rattle.logos_reduce.specs.inside.Count.{sum_below, pairs_together}

pub sum_le : (n : ℕ) (f g : ℕ → ℕ) → ((i : ℕ) → i < n → f i ≤ g i) → sum_below n f ≤ sum_below n g
sum_le zero f g le = omega arith
sum_le (suc n) f g le = let a = le n (omega arith) in let b = sum_le n f g (λ i l. le i (omega arith)) in omega arith

pub sum_lt : (n : ℕ) (f g : ℕ → ℕ) → ((i : ℕ) → i < n → f i ≤ g i) → (i : ℕ) → i < n → f i < g i → sum_below n f < sum_below n g
sum_lt zero f g le i l m = absurd (omega arith)
sum_lt (suc n) f g le i l m = go (eqb_tells i n) (λ lt. sum_lt n f g (λ i l. le i (omega arith)) i lt m)
  where
    go : ((nat_eq i n ≡ true) × (i ≡ n)) ⊎ ((nat_eq i n ≡ false) × (i ≢ n)) → (i < n → sum_below n f < sum_below n g) → f n + sum_below n f < g n + sum_below n g
    go (inl e) ih = let a : f n < g n = subst (λ (j : ℕ). f j < g j) e.1 m in let b = sum_le n f g (λ i l. le i (omega arith)) in omega arith
    go (inr d) ih =
        let a = le n (omega arith) in let b = ih (omega (arith, d.1)) in omega arith

-- a finer partition that parts two states has fewer pairs of states in one block
pub fewer_pairs : (n : ℕ) (fine block : ℕ → ℕ) (s t : ℕ) → IsFiner n fine block → s < n → t < n → block s ≡ block t → fine s ≢ fine t → pairs_together n fine < pairs_together n block
fewer_pairs n fine block s t finer hs ht e d =
    sum_lt n (λ u. sum_below n (λ v. if nat_eq (fine u) (fine v) then 1 else 0)) (λ u. sum_below n (λ v. if nat_eq (block u) (block v) then 1 else 0))
    (λ u hu. sum_le n _ _ (λ v hv. pair u v hu hv)) s hs
    (sum_lt n _ _ (λ v hv. pair s v hs hv) t ht parted)
  where
    one : (b : Bool) → (if b then 1 else 0) ≤ 1
    one true = omega arith
    one false = omega arith

    pair : (u v : ℕ) → u < n → v < n → (if nat_eq (fine u) (fine v) then 1 else 0) ≤ (if nat_eq (block u) (block v) then 1 else 0)
    pair u v hu hv = go (eqb_tells (fine u) (fine v))
      where
        go : ((nat_eq (fine u) (fine v) ≡ true) × (fine u ≡ fine v)) ⊎ ((nat_eq (fine u) (fine v) ≡ false) × (fine u ≢ fine v)) →
            (if nat_eq (fine u) (fine v) then 1 else 0) ≤ (if nat_eq (block u) (block v) then 1 else 0)
        go (inl q) =
            let same = finer u v hu hv q.1 in
            let w : nat_eq (block u) (block v) ≡ true = grind (arith, nat_tests) in
            rw w (one (nat_eq (fine u) (fine v)))
        go (inr q) = rw q.0 (omega arith)

    parted : (if nat_eq (fine s) (fine t) then 1 else 0) < (if nat_eq (block s) (block t) then 1 else 0)
    parted =
        let w : nat_eq (block s) (block t) ≡ true = grind (arith, nat_tests) in
        let z : nat_eq (fine s) (fine t) ≡ false = grind (arith, nat_tests) in
        rw (w, z) (omega arith)

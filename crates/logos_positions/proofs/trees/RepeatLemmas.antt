-- The matches of repetitions and literals as core patterns.
use Rattle.std.proofs.Common.{◌≡◌, ℕ, zero, suc, ◌+◌, ◌-◌, ◌≤◌, List, Option, Some, None, inl, inr, ⊎_elim, refl, sym, subst, arith}
use Rattle.logos_hir.specs.Matches.{Pieces, IsCount}
use Rattle.logos_positions.specs.Core as core
use Rattle.logos_positions.specs.Core.{Core, Many, none, more, Matches}
use Rattle.logos_positions.specs.Repeat.{IsOrdered, in_front, up_to, at_least, repeated}

pub Pieces-map : (R Q : ℕ → ℕ → Type 0) → ((i j : ℕ) → R i j → Q i j) → (n i j : ℕ) → Pieces R n i j → Pieces Q n i j
Pieces-map R Q f zero i j h = h
Pieces-map R Q f (suc n) i j h = (h.0, f i h.0 h.1, Pieces-map R Q f n h.0 j h.2)

module _ (R : ℕ → ℕ → Type 0) where
  Pieces-count : (m n i j : ℕ) → m ≡ n → Pieces R m i j → Pieces R n i j
  Pieces-count m n i j e h = subst (λ k. Pieces R k i j) e h

  pub Pieces-snoc : (n i l j : ℕ) → Pieces R n i l → R l j → Pieces R (suc n) i j
  Pieces-snoc zero i l j h r = (j, subst (λ k. R k j) (sym h) r, refl)
  Pieces-snoc (suc n) i l j h r = (h.0, h.1, Pieces-snoc n h.0 l j h.2 r)

  pub Pieces-add : (m n i l j : ℕ) → Pieces R m i l → Pieces R n l j → Pieces R (m + n) i j
  Pieces-add zero n i l j h k = Pieces-count n (zero + n) i j (omega arith) (subst (λ x. Pieces R n x j) (sym h) k)
  Pieces-add (suc m) n i l j h k =
      Pieces-count (suc (m + n)) (suc m + n) i j (omega arith) (h.0, h.1, Pieces-add m n h.0 l j h.2 k)

  pub Pieces-split : (m n i j : ℕ) → Pieces R (m + n) i j → (l : ℕ) × Pieces R m i l × Pieces R n l j
  Pieces-split zero n i j h = (i, refl, Pieces-count (zero + n) n i j (omega arith) h)
  Pieces-split (suc m) n i j h =
      let u : Pieces R (suc (m + n)) i j = Pieces-count (suc m + n) (suc (m + n)) i j (omega arith) h in
      let v = Pieces-split m n u.0 j u.2 in
      (v.0, (u.0, u.1, v.1), v.2)

  pub Pieces-of_Many : (i j : ℕ) → Many R i j → (n : ℕ) × Pieces R n i j
  Pieces-of_Many i j none = (0, refl)
  Pieces-of_Many i j (more l _ rs r) =
      let u = Pieces-of_Many i l rs in (suc u.0, Pieces-snoc u.0 i l j u.1 r)

  pub Many-add : (n i l j : ℕ) → Many R i l → Pieces R n l j → Many R i j
  Many-add zero i l j rs h = subst (Many R i) h rs
  Many-add (suc n) i l j rs h = Many-add n i h.0 j (more l h.0 rs h.1) h.2

  -- the last piece apart
  Many-of_Pieces : (n i l j : ℕ) → Many R i l → Pieces R (suc n) l j → (k : ℕ) × Many R i k × R k j
  Many-of_Pieces zero i l j rs h = (l, rs, subst (R l) h.2 h.1)
  Many-of_Pieces (suc n) i l j rs h = Many-of_Pieces n i h.0 j (more l h.0 rs h.1) h.2

module _ (bytes : List ℕ) (a : Core) where
  in_front-of_Pieces : (n : ℕ) (b : Core) (i l j : ℕ) →
      Pieces (Matches bytes a) n i l → Matches bytes b l j → Matches bytes (in_front n a b) i j
  in_front-of_Pieces zero b i l j h m = subst (λ k. Matches bytes b k j) (sym h) m
  in_front-of_Pieces (suc n) b i l j h m = (h.0, h.1, in_front-of_Pieces n b h.0 l j h.2 m)

  Pieces-of_in_front : (n : ℕ) (b : Core) (i j : ℕ) →
      Matches bytes (in_front n a b) i j → (l : ℕ) × Pieces (Matches bytes a) n i l × Matches bytes b l j
  Pieces-of_in_front zero b i j h = (i, refl, h)
  Pieces-of_in_front (suc n) b i j h =
      let u = Pieces-of_in_front n b h.0 j h.2 in (u.0, (h.0, h.1, u.1), u.2)

  up_to-of_Pieces : (n k i j : ℕ) → k ≤ n → Pieces (Matches bytes a) k i j → Matches bytes (up_to n a) i j
  up_to-of_Pieces zero zero i j le h = sym h
  up_to-of_Pieces zero (suc k) i j le h = absurd (omega arith)
  up_to-of_Pieces (suc n) zero i j le h = inr (sym h)
  up_to-of_Pieces (suc n) (suc k) i j le h = inl (h.0, h.1, up_to-of_Pieces n k h.0 j (omega arith) h.2)

  Pieces-of_up_to : (n i j : ℕ) → Matches bytes (up_to n a) i j → (k : ℕ) × (k ≤ n) × Pieces (Matches bytes a) k i j
  Pieces-of_up_to zero i j h = (0, omega arith, sym h)
  Pieces-of_up_to (suc n) i j h =
      ⊎_elim
      (λ u. let v = Pieces-of_up_to n u.0 j u.2 in (suc v.0, omega (arith, v.1), (u.0, u.1, v.2)))
      (λ u. (0, omega arith, sym u)) h

  plus-of_Pieces : (n i j : ℕ) → Pieces (Matches bytes a) (suc n) i j → Matches bytes (core.plus a) i j
  plus-of_Pieces n i j h = Many-of_Pieces (Matches bytes a) n i i j none h

  Pieces-of_plus : (i j : ℕ) → Matches bytes (core.plus a) i j → (n : ℕ) × Pieces (Matches bytes a) (suc n) i j
  Pieces-of_plus i j h =
      let u = Pieces-of_Many (Matches bytes a) i h.0 h.1 in
      (u.0, Pieces-snoc (Matches bytes a) u.0 i h.0 j u.1 h.2)

  at_least-of_Pieces : (least n i j : ℕ) → least ≤ n → Pieces (Matches bytes a) n i j → Matches bytes (at_least least a) i j
  at_least-of_Pieces zero zero i j le h = inr (sym h)
  at_least-of_Pieces zero (suc n) i j le h = inl (plus-of_Pieces n i j h)
  at_least-of_Pieces (suc least) n i j le h =
      let u = Pieces-split (Matches bytes a) least (suc (n - suc least)) i j
      (Pieces-count (Matches bytes a) n (least + suc (n - suc least)) i j (omega arith) h) in
      in_front-of_Pieces least (core.plus a) i u.0 j u.1 (plus-of_Pieces (n - suc least) u.0 j u.2)

  Pieces-of_at_least : (least i j : ℕ) → Matches bytes (at_least least a) i j → (n : ℕ) × (least ≤ n) × Pieces (Matches bytes a) n i j
  Pieces-of_at_least zero i j h =
      ⊎_elim (λ u. let v = Pieces-of_plus i j u in (suc v.0, omega arith, v.1)) (λ u. (0, omega arith, sym u)) h
  Pieces-of_at_least (suc least) i j h =
      let u = Pieces-of_in_front least (core.plus a) i j h in
      let v = Pieces-of_plus u.0 j u.2 in
      (least + suc v.0, omega arith, Pieces-add (Matches bytes a) least (suc v.0) i u.0 j u.1 v.1)

module _ (bytes : List ℕ) (a : Core) where
  pub repeated-of_Pieces : (least : ℕ) (most : Option ℕ) (n i j : ℕ) → IsCount least most n →
      Pieces (Matches bytes a) n i j → Matches bytes (repeated least most a) i j
  repeated-of_Pieces least None n i j c h = at_least-of_Pieces bytes a least n i j c.0 h
  repeated-of_Pieces least (Some most) n i j c h =
      let u = Pieces-split (Matches bytes a) least (n - least) i j
      (Pieces-count (Matches bytes a) n (least + (n - least)) i j (omega (arith, c.0)) h) in
      in_front-of_Pieces bytes a least _ i u.0 j u.1 (up_to-of_Pieces bytes a (most - least) (n - least) u.0 j (omega (arith, c.1)) u.2)

  pub Pieces-of_repeated : (least : ℕ) (most : Option ℕ) (i j : ℕ) → IsOrdered least most → Matches bytes (repeated least most a) i j →
      (n : ℕ) × IsCount least most n × Pieces (Matches bytes a) n i j
  Pieces-of_repeated least None i j ordered h =
      let u = Pieces-of_at_least bytes a least i j h in (u.0, (u.1, tt), u.2)
  Pieces-of_repeated least (Some most) i j ordered h =
      let u = Pieces-of_in_front bytes a least _ i j h in
      let v = Pieces-of_up_to bytes a (most - least) u.0 j u.2 in
      (least + v.0, (omega arith, omega (arith, v.1, ordered.0)), Pieces-add (Matches bytes a) least v.0 i u.0 j u.1 v.2)

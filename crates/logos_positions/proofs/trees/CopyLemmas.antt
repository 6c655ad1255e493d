-- The positions of repetitions written out, by the copy that they lie in.
use Rattle.std.proofs.Common.{◌≡◌, ℕ, zero, suc, ◌+◌, ◌-◌, ◌*◌, min, ◌<◌, ◌≤◌, List, Option, Some, None, IfSome, ◌⊎◌, inl, inr, ⊎_elim, refl, sym, subst, arith}
use Rattle.logos_hir.specs.Matches.{Pieces}
use Rattle.logos_positions.specs.Core as core
use Rattle.logos_positions.specs.Core.{Core, At, Many, none, width, Matches, Leaves, Begins, Reads}
use Rattle.logos_positions.specs.Repeat.{IsOrdered, count_of, in_front, up_to, repeated}
use Rattle.logos_positions.proofs.trees.ReadLemmas.{Reads-start, Reads-from, Reads-below}
use Rattle.logos_positions.proofs.trees.RepeatLemmas.{Pieces-of_Many, Many-add, Pieces-add, Pieces-split}

module _ (bytes : List ℕ) (a : Core) (m : ℕ) where
  -- after k pieces from i on, the position q of the body reads
  abbrev pub CopyReads : ℕ → ℕ → ℕ → Type 0
  CopyReads i k q = (cut : ℕ) × Pieces (Matches bytes a) k i cut × Reads bytes a (At cut) q m

  -- after n pieces from i on, the position q of b reads
  abbrev RestReads : Core → ℕ → ℕ → ℕ → Type 0
  RestReads b i n q = (cut : ℕ) × Pieces (Matches bytes a) n i cut × Reads bytes b (At cut) q m

  abbrev InFront : ℕ → Core → ℕ → ℕ → Type 0
  InFront n b i p =
      ((k q : ℕ) × (k < n) × (p ≡ width a * k + q) × CopyReads i k q) ⊎ ((q : ℕ) × (p ≡ width a * n + q) × RestReads b i n q)

  in_front-copies : (n : ℕ) (b : Core) (i p : ℕ) → Reads bytes (in_front n a b) (At i) p m → InFront n b i p
  in_front-copies zero b i p h = inr (p, omega arith, (i, refl, h))
  in_front-copies (suc n) b i p h =
      ⊎_elim
      (λ u. inl (0, p, omega arith, omega arith, (i, refl, u.1)))
      (λ u.
      let v = Reads-start bytes (in_front n a b) (Leaves bytes a (At i)) (p - width a) m u.1 in
      let first : Matches bytes a i v.0 = subst (λ k. Matches bytes a k v.0) v.1.1 v.1.2 in
      ⊎_elim
      (λ w. inl (suc w.0, w.1, omega (arith, w.2), omega (arith, u.0, w.3), (w.4.0, (v.0, first, w.4.1), w.4.2)))
      (λ w. inr (w.0, omega (arith, u.0, w.1), (w.2.0, (v.0, first, w.2.1), w.2.2)))
      (in_front-copies n b v.0 (p - width a) v.2))
      h

  copies-in_front : (n : ℕ) (b : Core) (i p : ℕ) → InFront n b i p → Reads bytes (in_front n a b) (At i) p m
  copies-in_front zero b i p (inl u) = absurd (omega (arith, u.2))
  copies-in_front zero b i p (inr u) =
      let e : u.0 ≡ p = omega (arith, u.1) in
      subst (λ x. Reads bytes b (At i) x m) e (Reads-from bytes b (At i) u.2.0 u.0 m (sym u.2.1) u.2.2)
  copies-in_front (suc n) b i p (inl (zero, q, lt, e, (cut, pieces, reads))) =
      let f : q ≡ p = omega (arith, e) in
      let r = Reads-from bytes a (At i) cut q m (sym pieces) reads in
      inl (subst (λ x. x < width a) f (Reads-below bytes a (At i) q m r), subst (λ x. Reads bytes a (At i) x m) f r)
  copies-in_front (suc n) b i p (inl (suc k, q, lt, e, (cut, pieces, reads))) =
      inr (
        omega (arith, e),
        Reads-from bytes (in_front n a b) (Leaves bytes a (At i)) pieces.0 (p - width a) m (i, refl, pieces.1)
            (copies-in_front n b pieces.0 (p - width a) (inl (k, q, omega (arith, lt), omega (arith, e), (cut, pieces.2, reads)))),
      )
  copies-in_front (suc n) b i p (inr (q, e, (cut, pieces, reads))) =
      inr (
        omega (arith, e),
        Reads-from bytes (in_front n a b) (Leaves bytes a (At i)) pieces.0 (p - width a) m (i, refl, pieces.1)
            (copies-in_front n b pieces.0 (p - width a) (inr (q, omega (arith, e), (cut, pieces.2, reads)))),
      )

  abbrev UpTo : ℕ → ℕ → ℕ → Type 0
  UpTo n i p = (k q : ℕ) × (k < n) × (p ≡ width a * k + q) × CopyReads i k q

  up_to-copies : (n i p : ℕ) → Reads bytes (up_to n a) (At i) p m → UpTo n i p
  up_to-copies zero i p h = absurd h
  up_to-copies (suc n) i p h =
      ⊎_elim
      (λ t. ⊎_elim
      (λ u. (0, p, omega arith, omega arith, (i, refl, u.1)))
      (λ u.
      let v = Reads-start bytes (up_to n a) (Leaves bytes a (At i)) (p - width a) m u.1 in
      let first : Matches bytes a i v.0 = subst (λ k. Matches bytes a k v.0) v.1.1 v.1.2 in
      let w = up_to-copies n v.0 (p - width a) v.2 in
      (suc w.0, w.1, omega (arith, w.2), omega (arith, u.0, w.3), (w.4.0, (v.0, first, w.4.1), w.4.2)))
      t.1)
      (λ t. absurd t.1) h

  copies-up_to : (n i p : ℕ) → UpTo n i p → Reads bytes (up_to n a) (At i) p m
  copies-up_to zero i p u = absurd (omega (arith, u.2))
  copies-up_to (suc n) i p u = inl (Reads-below bytes (core.cat a (up_to n a)) (At i) p m (go (copies-up_to n) u), go (copies-up_to n) u)
    where
      go : ((i p : ℕ) → UpTo n i p → Reads bytes (up_to n a) (At i) p m) → UpTo (suc n) i p → Reads bytes (core.cat a (up_to n a)) (At i) p m
      go later (zero, q, lt, e, (cut, pieces, reads)) =
          let f : q ≡ p = omega (arith, e) in
          let r = Reads-from bytes a (At i) cut q m (sym pieces) reads in
          inl (subst (λ x. x < width a) f (Reads-below bytes a (At i) q m r), subst (λ x. Reads bytes a (At i) x m) f r)
      go later (suc k, q, lt, e, (cut, pieces, reads)) =
          inr (
            omega (arith, e),
            Reads-from bytes (up_to n a) (Leaves bytes a (At i)) pieces.0 (p - width a) m (i, refl, pieces.1)
                (later pieces.0 (p - width a) (k, q, omega (arith, lt), omega (arith, e), (cut, pieces.2, reads))),
          )

  plus-copies : (i q : ℕ) → Reads bytes (core.plus a) (At i) q m → (k : ℕ) × CopyReads i k q
  plus-copies i q h =
      let v = Reads-start bytes a (Begins bytes a (At i)) q m h in
      let u = Pieces-of_Many (Matches bytes a) v.1.0 v.0 v.1.2 in
      (u.0, (v.0, subst (λ x. Pieces (Matches bytes a) u.0 x v.0) v.1.1 u.1, v.2))

  copies-plus : (i q k : ℕ) → CopyReads i k q → Reads bytes (core.plus a) (At i) q m
  copies-plus i q k (cut, pieces, reads) =
      Reads-from bytes a (Begins bytes a (At i)) cut q m (i, refl, Many-add (Matches bytes a) k i i cut none pieces) reads

  -- the position p of a repetition reads: after some number of pieces, a position of the copy of
  -- the next one
  abbrev pub TurnReads : ℕ → Option ℕ → ℕ → ℕ → Type 0
  TurnReads least most i p =
      (k q : ℕ) × IfSome most (λ n. k < n) × (p ≡ width a * min k (count_of least most - 1) + q) × CopyReads i k q

  pub repeated-turns : (least : ℕ) (most : Option ℕ) (i p : ℕ) → IsOrdered least most →
      Reads bytes (repeated least most a) (At i) p m → TurnReads least most i p
  repeated-turns zero None i p o (inl (lt, h)) =
      let u = plus-copies i p h in
      let e : min u.0 (count_of zero None - 1) ≡ 0 = omega arith in
      (u.0, p, tt, rw e (omega arith), u.1)
  repeated-turns zero None i p o (inr (le, h)) = absurd h
  repeated-turns (suc least) None i p o h =
      ⊎_elim
      (λ u.
      let e : min u.0 (count_of (suc least) None - 1) ≡ u.0 = omega (arith, u.2) in
      (u.0, u.1, tt, rw e u.3, u.4))
      (λ u.
      let v = plus-copies u.2.0 u.0 u.2.2 in
      let e : min (least + v.0) (count_of (suc least) None - 1) ≡ least = omega arith in
      (least + v.0, u.0, tt, rw e u.1, (v.1.0, Pieces-add (Matches bytes a) least v.0 i u.2.0 v.1.0 u.2.1 v.1.1, v.1.2)))
      (in_front-copies least (core.plus a) i p h)
  repeated-turns least (Some most) i p o h =
      ⊎_elim
      (λ u.
      let e : min u.0 (most - 1) ≡ u.0 = omega (arith, u.2, o.0) in
      (u.0, u.1, omega (arith, u.2, o.0), rw e u.3, u.4))
      (λ u.
      let v = up_to-copies (most - least) u.2.0 u.0 u.2.2 in
      let lt : v.0 < most - least = v.2 in
      let e : min (least + v.0) (most - 1) ≡ least + v.0 = omega arith in
      let f : p ≡ width a * (least + v.0) + v.1 = omega (arith, u.1, v.3) in
      (least + v.0, v.1, omega arith, rw e f, (v.4.0, Pieces-add (Matches bytes a) least v.0 i u.2.0 v.4.0 u.2.1 v.4.1, v.4.2)))
      (in_front-copies least (up_to (most - least) a) i p h)

  lt_or_ge : (x y : ℕ) → (x < y) ⊎ (y ≤ x)
  lt_or_ge x y = grind arith

  pub turns-repeated : (least : ℕ) (most : Option ℕ) (i p : ℕ) → IsOrdered least most →
      TurnReads least most i p → Reads bytes (repeated least most a) (At i) p m
  turns-repeated zero None i p o (k, q, few, is, reads) =
      let e : min k (count_of zero None - 1) ≡ 0 = omega arith in
      let f : q ≡ p = omega (arith, rw e at is) in
      let r = subst (λ x. Reads bytes (core.plus a) (At i) x m) f (copies-plus i q k reads) in
      inl (Reads-below bytes (core.plus a) (At i) p m r, r)
  turns-repeated (suc least) None i p o (k, q, few, is, reads) =
      ⊎_elim
      (λ lt.
      let e : min k (count_of (suc least) None - 1) ≡ k = omega arith in
      copies-in_front least (core.plus a) i p (inl (k, q, lt, rw e at is, reads)))
      (λ ge.
      let e : min k (count_of (suc least) None - 1) ≡ least = omega arith in
      let n : k ≡ least + (k - least) = omega arith in
      let u = Pieces-split (Matches bytes a) least (k - least) i reads.0 (subst (λ x. Pieces (Matches bytes a) x i reads.0) n reads.1) in
      copies-in_front least (core.plus a) i p (inr (q, rw e at is, (u.0, u.1, copies-plus u.0 q (k - least) (reads.0, u.2, reads.2)))))
      (lt_or_ge k least)
  turns-repeated least (Some most) i p o (k, q, few, is, reads) =
      let e : min k (most - 1) ≡ k = omega arith in
      ⊎_elim
      (λ lt. copies-in_front least (up_to (most - least) a) i p (inl (k, q, lt, rw e at is, reads)))
      (λ ge.
      let n : k ≡ least + (k - least) = omega arith in
      let f : p ≡ width a * (least + (k - least)) + q = rw (← n) (rw e at is) in
      let u = Pieces-split (Matches bytes a) least (k - least) i reads.0 (subst (λ x. Pieces (Matches bytes a) x i reads.0) n reads.1) in
      copies-in_front least (up_to (most - least) a) i p
      (inr (
        width a * (k - least) + q,
        omega (arith, f),
        (
          u.0,
          u.1,
          copies-up_to (most - least) u.0 (width a * (k - least) + q)
              (k - least, q, omega (arith, o.0), refl, (reads.0, u.2, reads.2)),
        ),
      )))
      (lt_or_ge k least)

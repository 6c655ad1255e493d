-- The marked positions are those that can have read the last byte, and show a match one byte late.
use Rattle.std.proofs.Common.{◌≡◌, ℕ, zero, suc, ◌-◌, ◌<◌, ◌↔◌, List, Some, inl, inr, ⊎_elim, slice_get, refl, sym, ap, ◌∙◌, subst, arith}
use Rattle.logos_positions.specs.Core.{Core, At, holds_at, void, character, Occurs, empty, byte_in, look, cat, alt, plus, width, Many, Matches, Leaves, Begins, Reads, Exits, Steps}
use Rattle.logos_positions.specs.Run.{Marked}
use Rattle.logos_positions.proofs.steps.PositionLemmas.{Exits-map, Steps-map, Matches-forward, Occurs-after, Many-forward, Reads-map, Exits-of_Leaves, Leaves-of_Exits, Steps-of_Reads, Reads-of_Steps}

module _ (bytes : List ℕ) where
  -- a position that was read was entered before
  Reads-after : (t : Core) (S : ℕ → Type 0) (p m : ℕ) → Reads bytes t S p m → (k : ℕ) × S k × (k < m)
  Reads-after void S p m h = absurd h
  Reads-after empty S p m h = absurd h
  Reads-after (byte_in c) S p m h = (h.1.0, h.1.1, omega arith)
  Reads-after (character l) S p m h = (h.0, h.1, Occurs-after l bytes h.0 m p h.2)
  Reads-after (look l) S p m h = absurd h
  Reads-after (cat a b) S p m h =
      ⊎_elim (λ u. Reads-after a S p m u.1)
      (λ u. let v = Reads-after b (Leaves bytes a S) (p - width a) m u.1 in
      (v.1.0, v.1.1, omega (arith, Matches-forward bytes a v.1.0 v.0 v.1.2))) h
  Reads-after (alt a b) S p m h =
      ⊎_elim (λ u. Reads-after a S p m u.1) (λ u. Reads-after b S (p - width a) m u.1) h
  Reads-after (plus a) S p m h =
      let v = Reads-after a (Begins bytes a S) p m h in
      (v.1.0, v.1.1, omega (arith, Many-forward (Matches bytes a) (Matches-forward bytes a) v.1.0 v.0 v.1.2))

  Leaves-at : (t : Core) (i m : ℕ) → Matches bytes t i m ↔ Leaves bytes t (At i) m
  Leaves-at t i m = (λ r. (i, refl, r), λ u. subst (λ k. Matches bytes t k m) u.1 u.2)

  -- a match that reads a byte, by the positions alone
  pub matches_by_positions : (t : Core) (i j : ℕ) → i < j →
      Matches bytes t i j ↔ Exits t (holds_at bytes j) (λ q. Reads bytes t (At i) q j) ⊥
  matches_by_positions t i j lt = (
    λ r. Exits-map t (holds_at bytes j) _ _ _ ⊥ (λ q below u. u) (λ e. omega arith)
        (Exits-of_Leaves bytes t (At i) j ((Leaves-at t i j).0 r)),
    λ x. (Leaves-at t i j).1 (Leaves-of_Exits bytes t (At i) j
        (Exits-map t (holds_at bytes j) _ _ _ _ (λ q below u. u) absurd x)),
  )

  -- an empty match, with no position
  pub matches_empty : (t : Core) (i : ℕ) →
      Matches bytes t i i ↔ Exits t (holds_at bytes i) (λ q. ⊥) (Unit {0})
  matches_empty t i = (
    λ r. Exits-map t (holds_at bytes i) (λ q. Reads bytes t (At i) q i) _ _ _
        (λ q below u. let v = Reads-after t (At i) q i u in omega (arith, v.1, v.2)) (λ e. tt)
        (Exits-of_Leaves bytes t (At i) i ((Leaves-at t i i).0 r)),
    λ x. (Leaves-at t i i).1 (Leaves-of_Exits bytes t (At i) i
        (Exits-map t (holds_at bytes i) _ _ _ _ (λ q below u. absurd u) (λ u. refl) x)),
  )

  -- one more byte
  pub reads_next : (t : Core) (i m x p : ℕ) → slice_get bytes m ≡ Some x →
      Reads bytes t (At i) p (suc m) ↔ Steps t (holds_at bytes m) x (λ q. Reads bytes t (At i) q m) (m ≡ i) p
  reads_next t i m x p is = (Steps-of_Reads bytes t (At i) m x p is, Reads-of_Steps bytes t (At i) m x p is)

  -- the byte that was read is there
  Reads-byte : (t : Core) (S : ℕ → Type 0) (p m : ℕ) → Reads bytes t S p (suc m) → (x : ℕ) × (slice_get bytes m ≡ Some x)
  Reads-byte void S p m h = absurd h
  Reads-byte empty S p m h = absurd h
  Reads-byte (byte_in c) S p m h =
      let at : h.1.0 ≡ m = omega arith in (h.1.2.0.byte, sym (ap (slice_get bytes) at) ∙ h.1.2.0.is)
  Reads-byte (character l) S p m h = (h.2.0, h.2.1)
  Reads-byte (look l) S p m h = absurd h
  Reads-byte (cat a b) S p m h =
      ⊎_elim (λ u. Reads-byte a S p m u.1) (λ u. Reads-byte b _ (p - width a) m u.1) h
  Reads-byte (alt a b) S p m h =
      ⊎_elim (λ u. Reads-byte a S p m u.1) (λ u. Reads-byte b S (p - width a) m u.1) h
  Reads-byte (plus a) S p m h = Reads-byte a _ p m h

  pub Marked-iff : (t : Core) (m q : ℕ) → Marked t bytes m q ↔ Reads bytes t (At 0) q m
  Marked-iff t zero q = (absurd, λ u. let v = Reads-after t (At 0) q 0 u in omega (arith, v.2))
  Marked-iff t (suc m) q = (
    λ u. Reads-of_Steps bytes t (At 0) m u.0 q u.1
        (Steps-map t (holds_at bytes m) u.0 _ _ _ _ q (λ p below. (Marked-iff t m p).0) (λ e. e) u.2),
    λ r. let x = Reads-byte t (At 0) q m r in (
      x.0,
      x.1,
      Steps-map t (holds_at bytes m) x.0 _ _ _ _ q (λ p below. (Marked-iff t m p).1) (λ e. e)
          (Steps-of_Reads bytes t (At 0) m x.0 q x.1 r),
    ),
  )

  pub Marked-exits : (t : Core) (m : ℕ) → Matches bytes t 0 m ↔ Exits t (holds_at bytes m) (Marked t bytes m) (m ≡ 0)
  Marked-exits t m = (
    λ r. Exits-map t (holds_at bytes m) _ _ _ _ (λ p below. (Marked-iff t m p).1) (λ e. e)
        (Exits-of_Leaves bytes t (At 0) m ((Leaves-at t 0 m).0 r)),
    λ x. (Leaves-at t 0 m).1 (Leaves-of_Exits bytes t (At 0) m
        (Exits-map t (holds_at bytes m) _ _ _ _ (λ p below. (Marked-iff t m p).0) (λ e. e) x)),
  )

  -- a read begins at one of the points
  pub Reads-start : (t : Core) (S : ℕ → Type 0) (p m : ℕ) → Reads bytes t S p m → (i : ℕ) × S i × Reads bytes t (At i) p m
  Reads-start void S p m h = absurd h
  Reads-start empty S p m h = absurd h
  Reads-start (byte_in c) S p m h = (h.1.0, h.1.1, (h.0, (h.1.0, refl, h.1.2)))
  Reads-start (character l) S p m h = (h.0, h.1, (h.0, refl, h.2))
  Reads-start (look l) S p m h = absurd h
  Reads-start (cat a b) S p m h =
      ⊎_elim (λ u. let v = Reads-start a S p m u.1 in (v.0, v.1, inl (u.0, v.2)))
      (λ u. let v = Reads-start b (Leaves bytes a S) (p - width a) m u.1 in (
        v.1.0,
        v.1.1,
        inr (
          u.0,
          Reads-map bytes b (At v.0) (Leaves bytes a (At v.1.0)) (p - width a) m
              (λ k e. (v.1.0, refl, subst (λ x. Matches bytes a v.1.0 x) (sym e) v.1.2)) v.2,
        ),
      )) h
  Reads-start (alt a b) S p m h =
      ⊎_elim (λ u. let v = Reads-start a S p m u.1 in (v.0, v.1, inl (u.0, v.2)))
      (λ u. let v = Reads-start b S (p - width a) m u.1 in (v.0, v.1, inr (u.0, v.2))) h
  Reads-start (plus a) S p m h =
      let v = Reads-start a (Begins bytes a S) p m h in (
        v.1.0,
        v.1.1,
        Reads-map bytes a (At v.0) (Begins bytes a (At v.1.0)) p m
            (λ k e. (v.1.0, refl, subst (λ x. Many (Matches bytes a) v.1.0 x) (sym e) v.1.2)) v.2,
      )

  pub Reads-from : (t : Core) (S : ℕ → Type 0) (i p m : ℕ) → S i → Reads bytes t (At i) p m → Reads bytes t S p m
  Reads-from t S i p m s h = Reads-map bytes t (At i) S p m (λ k e. subst S (sym e) s) h

  pub Reads-below : (t : Core) (S : ℕ → Type 0) (p m : ℕ) → Reads bytes t S p m → p < width t
  Reads-below void S p m h = absurd h
  Reads-below empty S p m h = absurd h
  Reads-below (byte_in c) S p m h = omega (arith, h.0)
  Reads-below (character l) S p m h = below m h.2
    where
      below : (m : ℕ) → Occurs l bytes h.0 m p → p < suc l.others
      below zero u = absurd u
      below (suc m) u = omega (arith, u.2)
  Reads-below (look l) S p m h = absurd h
  Reads-below (cat a b) S p m h =
      ⊎_elim (λ u. omega (arith, u.0)) (λ u. omega (arith, u.0, Reads-below b _ (p - width a) m u.1)) h
  Reads-below (alt a b) S p m h =
      ⊎_elim (λ u. omega (arith, u.0)) (λ u. omega (arith, u.0, Reads-below b S (p - width a) m u.1)) h
  Reads-below (plus a) S p m h = Reads-below a _ p m h

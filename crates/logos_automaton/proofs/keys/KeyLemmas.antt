-- Equal keys represent the same state.
use Rattle.std.proofs.Common.{length-append, ◌≡◌, ℕ, zero, suc, ◌+◌, ◌≤◌, ◌⊎◌, Bool, true, false, ◌&&◌, ◌||◌, if◌then◌else◌, List, [], ◌∷◌, ◌++◌, Some, length, slice_get, refl, sym, ap, ◌∙◌, subst, inl, inr, ⊎_elim, true≢false, rules, arith}
use Rattle.std.proofs.lemmas.Bool.{and_parts, or_left}
use Rattle.std.proofs.lemmas.Option.{same_Some}
use Rattle.std.specs.List.{list_any}
use lib.Pointwise.{pointwise, bytes_decides}
use lib.Dec.{eqb}
use denote.Enum.Bare.{sameb, same_true, true_same}
use Rattle.logos_automaton.specs.Keys.{state_of, Grows, AreRising, AreDistinct, AreReached, IsReached}
use Rattle.logos_positions.specs.Core.{Core}
use Rattle.logos_positions.specs.Marks.{IsRising}
use Rattle.logos_automaton.specs.declared.key.Key.{Key}
use Rattle.logos_positions.specs.contracts.positions.look.ByteKind.{the_type}

pub same_state : (a b : Key) → (pointwise eqb a.positions.items b.positions.items && (sameb the_type a.kind b.kind && pointwise eqb a.matches.items b.matches.items)) ≡ true →
    state_of b ≡ state_of a
same_state a b h =
    let p = and_parts _ _ h in
    let q = and_parts _ _ p.1 in
    let e = sym ((bytes_decides a.positions.items b.positions.items).0 p.0) in
    let f = sym (same_true the_type (search rules) _ _ q.0) in
    let g = sym ((bytes_decides a.matches.items b.matches.items).0 q.1) in
    λ i. record { positions = e i; kind = f i; matches = g i }

abbrev alike : Key → Key → Bool
alike a b = pointwise eqb a.positions.items b.positions.items && (sameb the_type a.kind b.kind && pointwise eqb a.matches.items b.matches.items)

both_true : (a b : Bool) → a ≡ true → b ≡ true → (a && b) ≡ true
both_true true b p q = q
both_true false b p q = p

same_alike : (a b : Key) → state_of a ≡ state_of b → alike a b ≡ true
same_alike a b e =
    both_true _ _ ((bytes_decides _ _).1 (ap (λ s. s.positions) e))
    (both_true _ _ (true_same the_type _ _ (ap (λ s. s.kind) e)) ((bytes_decides _ _).1 (ap (λ s. s.matches) e)))

got_front : (ks ys : List Key) (i : ℕ) (k : Key) → slice_get ks i ≡ Some k → slice_get (ks ++ ys) i ≡ Some k
got_front [] ys i k h = cc
got_front (x ∷ ks) ys zero k h = h
got_front (x ∷ ks) ys (suc i) k h = got_front ks ys i k h

got_push : (ks : List Key) (y : Key) (i : ℕ) (k : Key) → slice_get (ks ++ y ∷ []) i ≡ Some k →
    (slice_get ks i ≡ Some k) ⊎ ((i ≡ length ks) × (k ≡ y))
got_push [] y zero k h = inr (refl, sym (same_Some _ _ h))
got_push [] y (suc i) k h = cc
got_push (x ∷ ks) y zero k h = inl h
got_push (x ∷ ks) y (suc i) k h = ⊎_elim inl (λ u. inr (ap suc u.0, u.1)) (got_push ks y i k h)

none_alike : (p : Key → Bool) (ks : List Key) (i : ℕ) (k : Key) → list_any p ks ≡ false → slice_get ks i ≡ Some k → p k ≡ true → ⊥
none_alike p [] i k none h same = cc
none_alike p (x ∷ ks) zero k none h same =
    true≢false (sym (or_left _ _ (ap p (same_Some _ _ h) ∙ same)) ∙ none)
none_alike p (x ∷ ks) (suc i) k none h same = none_alike p ks i k (or_false _ _ none) h same
  where
    or_false : (a b : Bool) → (a || b) ≡ false → b ≡ false
    or_false true b h = absurd (true≢false h)
    or_false false b h = h

module _ (ks : List Key) (y : Key) where
  added : Bool → List Key
  added b = if b then ks else ks ++ y ∷ []

  grows_added : (b : Bool) → Grows ks (added b)
  unfolding added
  grows_added true = record { keeps = λ i s h. h }
  grows_added false = record { keeps = λ i s h. record { key = h.key; is = got_front ks _ i _ h.is; same = h.same } }

  rising_added : (b : Bool) → AreRising ks → IsRising y.positions.items → AreRising (added b)
  unfolding added
  rising_added true h r = h
  rising_added false h r = record {
    rising = λ i s at.
        ⊎_elim (λ e. h.rising i s (record { key = at.key; is = e; same = at.same }))
        (λ u. subst IsRising (ap (λ k. k.positions.items) (sym u.1) ∙ ap (λ z. z.positions) at.same) r)
        (got_push ks y i at.key at.is);
  }

  distinct_added : (b : Bool) → list_any (alike y) ks ≡ b → AreDistinct ks → AreDistinct (added b)
  unfolding added
  distinct_added true e h = h
  distinct_added false e h = record {
    distinct = λ i j s p q.
        ⊎_elim
        (λ a. ⊎_elim (λ b. h.distinct i j s (record { key = p.key; is = a; same = p.same }) (record { key = q.key; is = b; same = q.same }))
        (λ b. absurd (none_alike (alike y) ks i p.key e a
        (same_alike y p.key (ap state_of (sym b.1) ∙ q.same ∙ sym p.same))))
        (got_push ks y j q.key q.is))
        (λ a. ⊎_elim (λ b. absurd (none_alike (alike y) ks j q.key e b
        (same_alike y q.key (ap state_of (sym a.1) ∙ p.same ∙ sym q.same))))
        (λ b. a.0 ∙ sym b.0)
        (got_push ks y j q.key q.is))
        (got_push ks y i p.key p.is);
  }

  reached_added : (ts : List Core) (looks b : Bool) → AreReached ts looks ks → IsReached ts looks (state_of y) → AreReached ts looks (added b)
  unfolding added
  reached_added ts looks true h r = h
  reached_added ts looks false h r = record {
    reached = λ i s at.
        ⊎_elim (λ e. h.reached i s (record { key = at.key; is = e; same = at.same }))
        (λ u. subst (IsReached ts looks) (ap state_of (sym u.1) ∙ at.same) r)
        (got_push ks y i at.key at.is);
  }

  pub stays_reached : (ts : List Core) (looks : Bool) (new : List Key) → new ≡ (if list_any (alike y) ks then ks else ks ++ y ∷ []) →
      AreReached ts looks ks → IsReached ts looks (state_of y) → AreReached ts looks new
  unfolding added
  stays_reached ts looks new e = rw e (reached_added ts looks (list_any (alike y) ks))

  few_added : (b : Bool) → (length ks ≤ length (added b)) × (length (added b) ≤ length ks + 1)
  unfolding added
  few_added true = (omega arith, omega arith)
  few_added false = let n = length-append ks (y ∷ []) in (omega (arith, n), omega (arith, n))

  pub stays_few : (new : List Key) → new ≡ (if list_any (alike y) ks then ks else ks ++ y ∷ []) → (length ks ≤ length new) × (length new ≤ length ks + 1)
  unfolding added
  stays_few new e = rw e (few_added (list_any (alike y) ks))

  pub grows : (new : List Key) → new ≡ (if list_any (alike y) ks then ks else ks ++ y ∷ []) → Grows ks new
  unfolding added
  grows new e = rw e (grows_added (list_any (alike y) ks))

  pub stays_rising : (new : List Key) → new ≡ (if list_any (alike y) ks then ks else ks ++ y ∷ []) →
      AreRising ks → IsRising y.positions.items → AreRising new
  unfolding added
  stays_rising new e = rw e (rising_added (list_any (alike y) ks))

  pub stays_distinct : (new : List Key) → new ≡ (if list_any (alike y) ks then ks else ks ++ y ∷ []) → AreDistinct ks → AreDistinct new
  unfolding added
  stays_distinct new e = rw e (distinct_added (list_any (alike y) ks) refl)

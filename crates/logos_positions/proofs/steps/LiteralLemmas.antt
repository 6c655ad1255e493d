-- Steps on literals that are not entered.
use Rattle.std.proofs.Common.{◌≡◌, ℕ, zero, suc, ◌+◌, ◌-◌, ◌<◌, ◌≤◌, ◌↔◌, ◌⊎◌, Bool, false, IsTrue, nat_eq, List, [], ◌∷◌, length, slice_get, slice_index, Some, refl, sym, ap, ◌∙◌, subst, inl, inr, ⊎_elim, eqb-true, eq-eqb, arith}
use Rattle.std.proofs.lemmas.Option.{slice_get_within}
use Rattle.logos_positions.specs.Core.{Steps}
use Rattle.logos_positions.specs.Marks.{Has, IsFirstFrom, IsRising, IsSet}
use Rattle.logos_positions.specs.Repeat.{spelled}
use Rattle.logos_positions.specs.inside.Stepped.{Stepped}
use Rattle.logos_hir.specs.declared.hir.Look.{Look}
use Rattle.logos_positions.proofs.steps.JumpLemmas.{exits_spelled}
use Rattle.logos_positions.proofs.steps.StepLemmas.{iff_trans}
use Rattle.logos_positions.proofs.trees.IsCoreLemmas.{spelled_width}

lt_or_ge : (a b : ℕ) → (a < b) ⊎ (b ≤ a)
lt_or_ge a b = grind arith

some_is : (a b : ℕ) → Some a ≡ Some b → a ≡ b
some_is a b e = cc

nothing_there : (i x : ℕ) → slice_get [] i ≡ Some x → ⊥
nothing_there zero x e = cc
nothing_there (suc i) x e = cc

before_it : (M : ℕ → Type 0) (r j : ℕ) → suc r ≡ j + 1 → M j → ((r ≡ 0) × M 0) ⊎ ((i : ℕ) × (r ≡ i + 1) × M (1 + i))
before_it M r zero e m = inl (omega (arith, e), m)
before_it M r (suc i) e m = inr (i, omega (arith, e), subst M (omega arith) m)

-- the position of a literal that reads a byte: it has this byte, and is first or after a
-- position
steps_spelled : (test : Look → Bool) (x : ℕ) (text : List ℕ) (M : ℕ → Type 0) (d : Type 0) (p : ℕ) →
    Steps (spelled text) test x M d p
    ↔ ((slice_get text p ≡ Some x) × (((p ≡ 0) × d) ⊎ ((j : ℕ) × (p ≡ j + 1) × M j)))
steps_spelled test x [] M d p = (λ h. absurd h, λ h. absurd (nothing_there p x h.0))
steps_spelled test x (b ∷ text) M d zero = (
  λ h. ⊎_elim (λ u. (ap Some (sym (eqb-true _ _ u.1.2)), inl (refl, u.1.1))) (λ u. absurd (omega (arith, u.0))) h,
  λ h. inl (omega arith, (refl, ⊎_elim (λ u. u.1) (λ u. absurd (omega (arith, u.1))) h.1, eq-eqb x b (sym (some_is _ _ h.0)))),
)
steps_spelled test x (b ∷ text) M d (suc r) =
    let f = steps_spelled test x text (λ q. M (1 + q)) (M 0) r in
    let cut : suc r - 1 ≡ r = omega arith in (
      λ h. ⊎_elim (λ u. absurd (omega (arith, u.0)))
          (λ u. let v = f.0 (rw cut at u.1) in (
            v.0,
            inr (⊎_elim (λ w. (0, omega (arith, w.0), w.1)) (λ w. (1 + w.0, omega (arith, w.1), w.2)) v.1),
          )) h,
      λ h. inr (
        omega arith,
        rw cut (f.1 (h.0, ⊎_elim (λ w. absurd (omega (arith, w.0))) (λ w. before_it M r w.0 w.1 w.2) h.1)),
      ),
    )

-- The positions are those of `old`, and those of a text that begins at `base` that have the byte x
-- and come after one of `marks` between two indices.
pub record Comes (x : ℕ) (marks old new text : List ℕ) (base from to : ℕ) : Type 0 where
  pub has : (q : ℕ) → Has new q ↔ (Has old q
      ⊎ ((k : ℕ) × (from ≤ k) × (k < to) × (q ≡ slice_index marks k + 1) × (slice_get text (q - base) ≡ Some x)))

module _ (x : ℕ) (marks old new text : List ℕ) (base from : ℕ) (first : IsFirstFrom marks base from) where
  -- no position is after the next one of `marks`
  pub comes_below : (i : ℕ) → IsRising marks → IsSet old base → from ≤ i → i < length marks → Comes x marks old new text base from i →
      (k : ℕ) → k < length new → slice_index new k ≤ slice_index marks i
  comes_below i rising set after within c k lt =
      let low = first.above i after within in
      ⊎_elim
      (λ o. let under = set.below o.at o.within in let is = o.is in omega (arith, low, under, is))
      (λ u. let up = rising.rise u.0 i u.2 within in omega (arith, up, u.3))
      ((c.has (slice_index new k)).0 (record { at = k; within = lt; is = refl }))

  -- the last step of all
  pub comes_all : (test : Look → Bool) (to : ℕ) → IsRising marks → IsRising new → IsSet old base → IsFirstFrom marks (base + length text) to → from < to →
      Comes x marks old new text base from to →
      Stepped (spelled text) test x marks old new base false (nat_eq (slice_index marks (to - 1) + 1) (base + length text))
  comes_all test to rising up set last some c = record {
    set = record {
      rising = up;
      below = λ k lt. let w = spelled_width text in
          ⊎_elim
          (λ o. let under = set.below o.at o.within in let is = o.is in omega (arith, w, under, is))
          (λ u. let fits = slice_get_within text _ x u.4 in omega (arith, w, fits))
          ((c.has (slice_index new k)).0 (record { at = k; within = lt; is = refl }));
    };
    has = λ q. (
      λ h. ⊎_elim inl (λ u.
          let low = first.above u.0 u.1 (omega (arith, u.2, last.within)) in inr (
            omega (arith, low, u.3),
            (steps_spelled test x text _ _ (q - base)).1 (
              u.4,
              inr (slice_index marks u.0 - base, omega (arith, low, u.3), record { at = u.0; within = omega (arith, u.2, last.within); is = omega (arith, low) }),
            ),
          )) ((c.has q).0 h),
      λ h. (c.has q).1 (⊎_elim inl (λ u.
          let s = (steps_spelled test x text _ _ (q - base)).0 u.1 in
          ⊎_elim (λ v. absurd (none v.1)) (λ v.
          let fits = slice_get_within text _ x s.0 in
          let m = v.2 in
          let is = m.is in
          inr (
            m.at,
            from_on m.at (omega (arith, is)),
            below_to m.at m.within (omega (arith, is, v.1, fits)),
            omega (arith, is, v.1, u.0),
            s.0,
          )) s.1) h),
    );
    leaves =
        let long : 0 < length text = let low = first.above (to - 1) (omega (arith, some)) (omega (arith, some, last.within)) in
        let high = last.below (to - 1) (omega (arith, some)) in omega (arith, low, high) in
        iff_trans (
          λ t. let e = eqb-true _ _ t in record { at = to - 1; within = omega (arith, some, last.within); is = omega (arith, e, long) },
          λ m. let is = m.is in
              let under = below_to m.at m.within (omega (arith, is, long)) in
              eq-eqb _ _ (⊎_elim
              (λ lt. let more = rising.rise m.at (to - 1) lt (omega (arith, some, last.within)) in
              let high = last.below (to - 1) (omega (arith, some)) in absurd (omega (arith, more, high, is, long)))
              (λ ge. let e : m.at ≡ to - 1 = omega (arith, ge, under) in let same = ap (slice_index marks) e in omega (arith, same, is, long))
              (lt_or_ge m.at (to - 1))),
        )
        (exits_spelled test (λ q. Has marks (base + q)) (IsTrue false) text long);
  }
    where
      none : IsTrue false → ⊥
      none e = cc

      from_on : (k : ℕ) → base ≤ slice_index marks k → from ≤ k
      from_on k le = ⊎_elim (λ lt. let under = first.below k lt in absurd (omega (arith, under, le))) (λ ge. ge) (lt_or_ge k from)

      below_to : (k : ℕ) → k < length marks → slice_index marks k < base + length text → k < to
      below_to k within under = ⊎_elim (λ lt. lt) (λ ge. let over = last.above k ge within in absurd (omega (arith, over, under))) (lt_or_ge k to)

-- one more of `marks`
pub comes_more : (x : ℕ) (marks old mid new text : List ℕ) (base from i : ℕ) → from ≤ i → Comes x marks old mid text base from i →
    ((q : ℕ) → Has new q ↔ (Has mid q ⊎ ((q ≡ slice_index marks i + 1) × (slice_get text (q - base) ≡ Some x)))) →
    Comes x marks old new text base from (i + 1)
comes_more x marks old mid new text base from i after c f = record {
  has = λ q. (
    λ h. ⊎_elim
        (λ m. ⊎_elim inl (λ u. inr (u.0, u.1, omega (arith, u.2), u.3, u.4)) ((c.has q).0 m))
        (λ e. inr (i, after, omega arith, e.0, e.1)) ((f q).0 h),
    λ h. (f q).1 (⊎_elim (λ o. inl ((c.has q).1 (inl o)))
        (λ u. ⊎_elim (λ lt. inl ((c.has q).1 (inr (u.0, u.1, lt, u.3, u.4))))
        (λ ge. let e : u.0 ≡ i = omega (arith, ge, u.2) in inr (u.3 ∙ ap (λ k. slice_index marks k + 1) e, u.4))
        (lt_or_ge u.0 i)) h),
  );
}

pub comes_none : (x : ℕ) (marks old text : List ℕ) (base from : ℕ) → Comes x marks old old text base from from
comes_none x marks old text base from = record {
  has = λ q. (λ h. inl h, λ h. ⊎_elim (λ o. o) (λ u. absurd (omega (arith, u.1, u.2))) h);
}

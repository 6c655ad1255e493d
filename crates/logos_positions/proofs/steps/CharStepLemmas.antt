-- The step on a class of characters, mark by mark.
use Rattle.std.proofs.Common.{◌≡◌, ℕ, suc, ◌+◌, ◌-◌, ◌<◌, ◌≤◌, ◌↔◌, ◌⊎◌, Bool, IsTrue, List, length, slice_index, Some, sym, ap, ◌∙◌, subst, inl, inr, ⊎_elim, arith}
use Rattle.logos_positions.specs.Core.{Reader, character}
use Rattle.logos_positions.specs.Marks.{IsRising, Has, IsFirstFrom, IsSet}
use Rattle.logos_positions.specs.inside.Stepped.{Stepped}
use Rattle.logos_hir.specs.declared.hir.Look.{Look}

-- every mark below the index is below `base`, or has been looked at
pub record StartsFrom (xs : List ℕ) (base i : ℕ) : Type 0 where
  pub from : ℕ
  pub first : IsFirstFrom xs base from
  pub reached : from ≤ i
  pub within : i ≤ length xs

-- The positions that are read from one of the marks from `base` on and below the index.
abbrev pub FollowedFrom : Reader → ℕ → List ℕ → ℕ → ℕ → ℕ → Type 0
FollowedFrom r x marks base i p =
    (k : ℕ) × (k < i) × (k < length marks) × (base ≤ slice_index marks k) × (slice_index marks k - base ≤ r.others) × (r.follow (slice_index marks k - base) x ≡ Some p)

-- New positions: those that are entered, and those that are read from marks below the index.
abbrev pub FollowedTo : Reader → ℕ → List ℕ → List ℕ → List ℕ → ℕ → Bool → ℕ → Type 0
FollowedTo r x marks old new base entered i =
    (q : ℕ) → Has new q ↔ (Has old q ⊎ ((base ≤ q) × (q - base ≤ r.others) × ((IsTrue entered × (r.first x ≡ Some (q - base))) ⊎ FollowedFrom r x marks base i (q - base))))

lt_or_ge : (a b : ℕ) → (a < b) ⊎ (b ≤ a)
lt_or_ge a b = grind arith

lt_or_eq : (n m : ℕ) → n < m + 1 → (n < m) ⊎ (n ≡ m)
lt_or_eq n m h = grind arith

module _ (r : Reader) (x : ℕ) (marks old : List ℕ) (base : ℕ) (entered : Bool) where
  -- one more mark is looked at
  pub followed_more : (mid new : List ℕ) (i rows : ℕ) → rows ≡ suc r.others → i < length marks → base ≤ slice_index marks i → slice_index marks i - base < rows →
      FollowedTo r x marks old mid base entered i →
      ((q : ℕ) → Has new q ↔ (Has mid q ⊎ ((p : ℕ) × (p < rows) × (r.follow (slice_index marks i - base) x ≡ Some p) × (q ≡ base + p)))) →
      FollowedTo r x marks old new base entered (i + 1)
  followed_more mid new i rows size inside above fits before step q = (
    λ h. ⊎_elim
        (λ u. ⊎_elim inl
        (λ v. inr (v.0, v.1, ⊎_elim inl (λ w. inr (w.0, omega (arith, w.1), w.2, w.3, w.4, w.5)) v.2))
        ((before q).0 u))
        (λ u. let p : q - base ≡ u.0 = omega (arith, u.3) in
        inr (omega (arith, u.3), omega (arith, u.1, u.3), inr (i, omega arith, inside, above, omega arith, u.2 ∙ ap Some (sym p))))
        ((step q).0 h),
    λ h. (step q).1 (⊎_elim
        (λ u. inl ((before q).1 (inl u)))
        (λ u. ⊎_elim
        (λ v. inl ((before q).1 (inr (u.0, u.1, inl v))))
        (λ v. ⊎_elim
        (λ lt. inl ((before q).1 (inr (u.0, u.1, inr (v.0, lt, v.2, v.3, v.4, v.5)))))
        (λ e. inr (q - base, omega (arith, u.1), ap (λ k. r.follow (slice_index marks k - base) x) (sym e) ∙ v.5, omega (arith, u.0)))
        (lt_or_eq v.0 i v.1))
        u.2)
        h),
  )

  -- all marks of the class are looked at
  pub followed_all : (test : Look → Bool) (new : List ℕ) (i : ℕ) (left : Bool) → IsSet new (base + suc r.others) →
      ((k : ℕ) → i ≤ k → k < length marks → base + suc r.others ≤ slice_index marks k) →
      FollowedTo r x marks old new base entered i → IsTrue left ↔ Has marks base →
      Stepped (character r) test x marks old new base entered left
  followed_all test new i left set past followed f = record {
    set = set;
    has = λ q. (
      λ h. ⊎_elim inl
          (λ u. inr (
            u.0,
            (
              u.1,
              ⊎_elim inl
                  (λ v. inr (slice_index marks v.0 - base, v.4, record { at = v.0; within = v.2; is = omega (arith, v.3) }, v.5)) u.2,
            ),
          ))
          ((followed q).0 h),
      λ h. (followed q).1 (⊎_elim inl
          (λ u. inr (
            u.0,
            u.1.0,
            ⊎_elim inl
                (λ v.
                let has = v.2 in
                let is : slice_index marks has.at ≡ base + v.0 = has.is in
                let same : slice_index marks has.at - base ≡ v.0 = omega arith in
                inr (
                  has.at,
                  ⊎_elim (λ lt. lt) (λ ge. let far = past has.at ge has.within in absurd (omega (arith, v.1, far))) (lt_or_ge has.at i),
                  has.within,
                  omega arith,
                  omega (arith, v.1),
                  ap (λ k. r.follow k x) same ∙ v.3,
                )) u.1.1,
          ))
          h),
    );
    leaves = (λ t. subst (Has marks) (omega arith) (f.0 t), λ h. f.1 (subst (Has marks) (omega arith) h));
  }

-- from the index on, all marks are at least as high as the one there
pub marks_past : (marks : List ℕ) (bound i : ℕ) → IsRising marks → (i < length marks → bound ≤ slice_index marks i) →
    (k : ℕ) → i ≤ k → k < length marks → bound ≤ slice_index marks k
marks_past marks bound i rising high k le inside =
    ⊎_elim
    (λ lt. let up = rising.rise i k lt inside in let h = high (omega arith) in omega (arith, up, h))
    (λ ge. let e : i ≡ k = omega arith in subst (λ j. bound ≤ slice_index marks j) e (high (omega arith)))
    (lt_or_ge i k)

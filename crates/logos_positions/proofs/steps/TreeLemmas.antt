-- The steps of one tree, and their addition to those of the trees before it.
use Rattle.std.proofs.Common.{◌≡◌, ℕ, ◌+◌, ◌-◌, ◌<◌, ◌≤◌, ◌↔◌, ◌⊎◌, Bool, false, IsTrue, List, [], ◌++◌, length, drop, slice_index, slice_range, length-append, refl, sym, ap, ◌∙◌, inl, inr, ⊎_elim, arith}
use Rattle.std.proofs.lemmas.List.{get_or_append_left, get_or-take, get_or-drop, length-take, length-drop}
use Rattle.std.proofs.Math.Seq.{get_or-append_right}
use Rattle.logos_positions.specs.Core.{Core, width}
use Rattle.logos_positions.specs.Marks.{Has, IsFirstFrom, IsRising, IsSet}
use Rattle.logos_positions.specs.Several.{IsStepOf}
use Rattle.logos_positions.specs.inside.Stepped.{Stepped}
use Rattle.logos_hir.specs.declared.hir.Look.{Look}
use Rattle.logos_positions.proofs.steps.StepLemmas.{iff_trans, Exits-iff}
use Rattle.logos_positions.proofs.steps.SteppedLemmas.{Steps-iff}
use Rattle.logos_positions.proofs.steps.SeveralLemmas.{none_there}

lt_or_ge : (a b : ℕ) → (a < b) ⊎ (b ≤ a)
lt_or_ge a b = grind arith

-- ---- two sets, one after the other

Has-append : (xs ys : List ℕ) (q : ℕ) → Has (xs ++ ys) q ↔ (Has xs q ⊎ Has ys q)
Has-append xs ys q =
    let len = length-append xs ys in (
      λ h. ⊎_elim
          (λ lt. inl (record { at = h.at; within = lt; is = sym (get_or_append_left xs ys 0 h.at lt) ∙ h.is }))
          (λ ge. inr (record {
            at = h.at - length xs;
            within = omega (arith, h.within, len, ge);
            is = sym (get_or-append_right xs ys h.at 0 ge) ∙ h.is;
          }))
          (lt_or_ge h.at (length xs)),
      λ s. ⊎_elim
          (λ h. record { at = h.at; within = omega (arith, h.within, len); is = get_or_append_left xs ys 0 h.at h.within ∙ h.is })
          (λ h.
          let back : h.at + length xs - length xs ≡ h.at = omega arith in
          record {
            at = h.at + length xs;
            within = omega (arith, h.within, len);
            is = get_or-append_right xs ys (h.at + length xs) 0 (omega arith) ∙ ap (slice_index ys) back ∙ h.is;
          })
          s,
    )

IsSet-append : (xs ys : List ℕ) (base top : ℕ) → IsSet xs base → IsSet ys top → base ≤ top → ((q : ℕ) → Has ys q → base ≤ q) → IsSet (xs ++ ys) top
IsSet-append xs ys base top h k le above =
    let len = length-append xs ys in
    let old : (i : ℕ) → i < length xs → slice_index (xs ++ ys) i ≡ slice_index xs i = λ i lt. get_or_append_left xs ys 0 i lt in
    let new : (i : ℕ) → length xs ≤ i → slice_index (xs ++ ys) i ≡ slice_index ys (i - length xs) = λ i ge. get_or-append_right xs ys i 0 ge in
    let high : (i : ℕ) → i < length ys → base ≤ slice_index ys i = λ i lt. above (slice_index ys i) (record { at = i; within = lt; is = refl }) in
    record {
      rising = record {
        rise = λ i j lt inside.
            ⊎_elim
            (λ before.
            let front = old i (omega (arith, lt, before)) in
            let back = old j before in
            let up = h.rising.rise i j lt before in
            omega (arith, front, back, up))
            (λ after.
            let back = new j after in
            let there : j - length xs < length ys = omega (arith, inside, len, after) in
            ⊎_elim
            (λ low.
            let front = old i low in
            let below = h.below i low in
            let up = high (j - length xs) there in
            omega (arith, front, back, below, up))
            (λ low.
            let front = new i low in
            let up = k.rising.rise (i - length xs) (j - length xs) (omega (arith, lt, low)) there in
            omega (arith, front, back, up))
            (lt_or_ge i (length xs)))
            (lt_or_ge j (length xs));
      };
      below = λ i inside.
          ⊎_elim
          (λ before.
          let back = old i before in
          let low = h.below i before in
          omega (arith, back, low, le))
          (λ after.
          let back = new i after in
          let low = k.below (i - length xs) (omega (arith, inside, len, after)) in
          omega (arith, back, low))
          (lt_or_ge i (length xs));
    }

-- a step that begins with no positions
pub step_of : (t : Core) (test : Look → Bool) (x : ℕ) (marks positions : List ℕ) (base : ℕ) (left : Bool) → Stepped t test x marks [] positions base false left →
    IsStepOf t test x marks base positions left
step_of t test x marks positions base left s = record {
  set = s.set;
  has = λ q. (λ h. ⊎_elim (λ z. absurd (none_there q z)) (λ u. u) ((s.has q).0 h), λ h. (s.has q).1 (inr h));
  leaves = s.leaves;
}

-- a step of one tree is added to the positions of the trees before it
pub Stepped-append : (t : Core) (test : Look → Bool) (x : ℕ) (marks old added : List ℕ) (base : ℕ) (left : Bool) → IsSet old base →
    IsStepOf t test x marks base added left → Stepped t test x marks old (old ++ added) base false left
Stepped-append t test x marks old added base left set s = record {
  set = IsSet-append old added base (base + width t) set s.set (omega arith) (λ q h. ((s.has q).0 h).0);
  has = λ q. (
    λ h. ⊎_elim inl (λ k. inr ((s.has q).0 k)) ((Has-append old added q).0 h),
    λ h. (Has-append old added q).1 (⊎_elim inl (λ k. inr ((s.has q).1 k)) h),
  );
  leaves = s.leaves;
}

-- a step depends on the marks among the tree's own positions
pub step_by_own : (t : Core) (test : Look → Bool) (x : ℕ) (own marks positions : List ℕ) (base : ℕ) (left : Bool) →
    ((q : ℕ) → base ≤ q → q < base + width t → Has own q ↔ Has marks q) → IsStepOf t test x own base positions left → IsStepOf t test x marks base positions left
step_by_own t test x own marks positions base left same s =
    let here : (p : ℕ) → p < width t → Has own (base + p) ↔ Has marks (base + p) = λ p lt. same (base + p) (omega arith) (omega (arith, lt)) in
    record {
      set = s.set;
      has = λ q.
          let steps = Steps-iff t test x (λ p. Has own (base + p)) (λ p. Has marks (base + p)) (IsTrue false) (IsTrue false) (q - base) (q - base) refl here (λ u. u, λ u. u) in (
            λ h. let u = (s.has q).0 h in (u.0, steps.0 u.1),
            λ h. (s.has q).1 (h.0, steps.1 h.1),
          );
      leaves = iff_trans s.leaves (Exits-iff t test (λ p. Has own (base + p)) (λ p. Has marks (base + p)) (IsTrue false) (IsTrue false) here (λ u. u, λ u. u));
    }

-- ---- the marks between two points

range_length : (xs : List ℕ) (a b : ℕ) → b ≤ length xs → length (slice_range xs a b) ≡ b - a
range_length xs a b le =
    let taken = length-take (b - a) (drop a xs) in
    let left = length-drop a xs in
    omega (arith, taken, left, le)

range_at : (xs : List ℕ) (a b i : ℕ) → i < b - a → slice_index (slice_range xs a b) i ≡ slice_index xs (a + i)
range_at xs a b i lt = get_or-take (b - a) (drop a xs) i 0 lt ∙ get_or-drop a xs i 0

pub first_order : (xs : List ℕ) (low high from to : ℕ) → low ≤ high → IsFirstFrom xs low from → IsFirstFrom xs high to → from ≤ to
first_order xs low high from to le f g =
    ⊎_elim (λ lt. let under = f.below to lt in let over = g.above to (omega arith) (omega (arith, lt, f.within)) in absurd (omega (arith, under, over, le))) (λ ge. ge) (lt_or_ge to from)

module _ (xs : List ℕ) (low high from to : ℕ) (rising : IsRising xs) (first : IsFirstFrom xs low from) (last : IsFirstFrom xs high to) where
  pub range_rises : IsRising (slice_range xs from to)
  range_rises = record {
    rise = λ i j lt inside.
        let size = range_length xs from to last.within in
        let front = range_at xs from to i (omega (arith, lt, inside, size)) in
        let back = range_at xs from to j (omega (arith, inside, size)) in
        let up = rising.rise (from + i) (from + j) (omega (arith, lt)) (omega (arith, inside, size, last.within)) in
        omega (arith, front, back, up);
  }

  pub range_has : (q : ℕ) → low ≤ q → q < high → Has (slice_range xs from to) q ↔ Has xs q
  range_has q le lt =
      let size = range_length xs from to last.within in (
        λ h.
            let here = range_at xs from to h.at (omega (arith, h.within, size)) in
            record { at = from + h.at; within = omega (arith, h.within, size, last.within); is = sym here ∙ h.is },
        λ h.
            let after : from ≤ h.at = ⊎_elim (λ low. let under = first.below h.at low in absurd (omega (arith, under, h.is, le))) (λ ge. ge) (lt_or_ge h.at from) in
            let before : h.at < to = ⊎_elim (λ less. less) (λ ge. let over = last.above h.at ge h.within in absurd (omega (arith, over, h.is, lt))) (lt_or_ge h.at to) in
            let back : from + (h.at - from) ≡ h.at = omega (arith, after) in
            record {
              at = h.at - from;
              within = omega (arith, before, after, size);
              is = range_at xs from to (h.at - from) (omega (arith, before, after)) ∙ ap (slice_index xs) back ∙ h.is;
            },
      )

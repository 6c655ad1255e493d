-- Sets of positions, as rising lists.
use Rattle.std.proofs.Common.{[], ◌∷◌, ◌++◌, length-append, ◌≡◌, ℕ, suc, ◌+◌, ◌-◌, ◌*◌, ◌/◌, min, ◌<◌, ◌≤◌, ◌↔◌, ◌⊎◌, IsTrue, ltb, List, length, slice_index, refl, sym, ap, ◌∙◌, inl, inr, ⊎_elim, arith, ltb-true}
use Rattle.std.specs.List.{insert}
use Rattle.std.proofs.lemmas.List.Edits.{get_or-insert_at, get_or-insert_below, get_or-insert_above, length-insert}
use Rattle.std.proofs.lemmas.Bool.{lt-ltb}
use Rattle.std.proofs.lemmas.List.{get_or_append_left}
use Rattle.std.proofs.Math.Nat.{mul-div-le, mul-le-mul_left}
use Rattle.std.proofs.Math.Seq.{get_or-append_seam}
use Rattle.logos_positions.specs.Marks.{IsRising, Has, IsFirstFrom, IsSet}

lt_or_ge : (a b : ℕ) → (a < b) ⊎ (b ≤ a)
lt_or_ge a b = grind arith

eq_or_lt : (a b : ℕ) → b ≤ a → (b ≡ a) ⊎ (b < a)
eq_or_lt a b h = grind arith

-- a marked position from `from` on is no lower than the first
first_lowest : (xs : List ℕ) (from i k : ℕ) → IsRising xs → IsFirstFrom xs from i → k < length xs → from ≤ slice_index xs k →
    slice_index xs i ≤ slice_index xs k
first_lowest xs from i k rising first within above =
    ⊎_elim (λ lt. let low = first.below k lt in absurd (omega arith))
    (λ ge. ⊎_elim (λ (e : i ≡ k). let same = ap (slice_index xs) e in omega arith)
    (λ lt. let up = rising.rise i k lt within in omega arith) (eq_or_lt k i ge))
    (lt_or_ge k i)

pub any_marked : (xs : List ℕ) (from width i : ℕ) → IsRising xs → IsFirstFrom xs from i → i < length xs →
    IsTrue (ltb (slice_index xs i - from) width) ↔ ((q : ℕ) × (q < width) × Has xs (from + q))
any_marked xs from width i rising first inside =
    let low : from ≤ slice_index xs i = first.above i (omega arith) inside in (
      λ t. (slice_index xs i - from, ltb-true _ _ t, record { at = i; within = inside; is = omega arith }),
      λ u. let has = u.2 in
          let is : slice_index xs has.at ≡ from + u.0 = has.is in
          let least = first_lowest xs from i has.at rising first has.within (omega arith) in
          lt-ltb _ _ (omega (arith, u.1)),
    )

pub Has-push : (xs : List ℕ) (y q : ℕ) → Has (xs ++ y ∷ []) q ↔ (Has xs q ⊎ (q ≡ y))
Has-push xs y q = (
  λ h.
      let within : h.at < suc (length xs) = omega (arith, h.within, length-append xs (y ∷ [])) in
      ⊎_elim
      (λ lt. inl (record { at = h.at; within = lt; is = sym (get_or_append_left xs (y ∷ []) 0 h.at lt) ∙ h.is }))
      (λ ge. let last : h.at ≡ length xs = omega arith in
      inr (sym h.is ∙ ap (λ k. slice_index (xs ++ y ∷ []) k) last ∙ get_or-append_seam xs y [] 0))
      (lt_or_ge h.at (length xs)),
  λ s. ⊎_elim
      (λ h. record {
        at = h.at;
        within = omega (arith, h.within, length-append xs (y ∷ []));
        is = get_or_append_left xs (y ∷ []) 0 h.at h.within ∙ h.is;
      })
      (λ e. record {
        at = length xs;
        within = omega (arith, length-append xs (y ∷ []));
        is = get_or-append_seam xs y [] 0 ∙ sym e;
      })
      s,
)

pub IsSet-more : (xs : List ℕ) (m n : ℕ) → m ≤ n → IsSet xs m → IsSet xs n
IsSet-more xs m n le h = record { rising = h.rising; below = λ k lt. omega (arith, h.below k lt) }

pub IsSet-push : (xs : List ℕ) (n : ℕ) → IsSet xs n → IsSet (xs ++ n ∷ []) (n + 1)
IsSet-push xs n h =
    let len = length-append xs (n ∷ []) in
    let old : (k : ℕ) → k < length xs → slice_index (xs ++ n ∷ []) k ≡ slice_index xs k = λ k lt. get_or_append_left xs (n ∷ []) 0 k lt in
    let new : (k : ℕ) → k ≡ length xs → slice_index (xs ++ n ∷ []) k ≡ n =
    λ k e. ap (λ j. slice_index (xs ++ n ∷ []) j) e ∙ get_or-append_seam xs n [] 0 in
    record {
      rising = record {
        rise = λ i j lt inside.
            let front = old i (omega arith) in
            let low = h.below i (omega arith) in
            ⊎_elim
            (λ before. let back = old j before in let up = h.rising.rise i j lt before in omega arith)
            (λ after. let last : j ≡ length xs = omega arith in let back = new j last in omega arith)
            (lt_or_ge j (length xs));
      };
      below = λ k inside.
          ⊎_elim
          (λ before. let back = old k before in let low = h.below k before in omega arith)
          (λ after. let last : k ≡ length xs = omega arith in let back = new k last in omega arith)
          (lt_or_ge k (length xs));
    }

pub unmarked_past : (xs : List ℕ) (start i : ℕ) → IsFirstFrom xs start i → i ≡ length xs → (q : ℕ) → Has xs (start + q) → ⊥
unmarked_past xs start i first past q has =
    let low = first.below has.at (omega (arith, has.within)) in
    let is = has.is in
    omega arith

pub unmarked_before : (xs : List ℕ) (start each i most : ℕ) → IsRising xs → IsFirstFrom xs start i → i < length xs →
    (q : ℕ) → q < each * min ((slice_index xs i - start) / each) most → Has xs (start + q) → ⊥
unmarked_before xs start each i most rising first inside q lt has =
    let is = has.is in
    let low : start ≤ slice_index xs i = first.above i (omega arith) inside in
    let least = first_lowest xs start i has.at rising first has.within (omega arith) in
    let whole = mul-div-le (slice_index xs i - start) each in
    let few : min ((slice_index xs i - start) / each) most ≤ (slice_index xs i - start) / each = omega arith in
    let part = mul-le-mul_left each few in
    omega arith

-- a position that is put where it belongs
module _ (xs : List ℕ) (position i : ℕ) (rising : IsRising xs) (first : IsFirstFrom xs position i) where
  inserted : List ℕ
  inserted = insert xs i position

  inserted_low : (k : ℕ) → k < i → slice_index inserted k ≡ slice_index xs k
  unfolding inserted
  inserted_low k lt = get_or-insert_below xs i position 0 k lt first.within

  inserted_at : slice_index inserted i ≡ position
  unfolding inserted
  inserted_at = get_or-insert_at xs i position 0 first.within

  inserted_high : (k : ℕ) → i ≤ k → slice_index inserted (k + 1) ≡ slice_index xs k
  unfolding inserted
  inserted_high k le = get_or-insert_above xs i position 0 k le first.within

  inserted_size : length inserted ≡ length xs + 1
  unfolding inserted
  inserted_size = length-insert xs i position first.within

  -- where a position of the new list was
  inserted_cases : (k : ℕ) → k < length inserted →
      ((k < i) × (slice_index inserted k ≡ slice_index xs k)) ⊎ ((k ≡ i) × (slice_index inserted k ≡ position))
      ⊎ ((i < k) × (k - 1 < length xs) × (slice_index inserted k ≡ slice_index xs (k - 1)))
  inserted_cases k lt =
      let size = inserted_size in
      ⊎_elim
      (λ low. inl (low, inserted_low k low))
      (λ ge. inr (⊎_elim
      (λ e. inl (sym e, ap (slice_index inserted) (sym e) ∙ inserted_at))
      (λ high.
      let back : k ≡ k - 1 + 1 = omega arith in
      inr (high, omega arith, ap (slice_index inserted) back ∙ inserted_high (k - 1) (omega arith)))
      (eq_or_lt k i ge)))
      (lt_or_ge k i)

  pub IsRising-insert : (i < length xs → slice_index xs i ≡ position → ⊥) → IsRising (insert xs i position)
  unfolding inserted
  IsRising-insert new = record {
    rise = λ j k lt inside.
        let size = inserted_size in
        go j k lt inside (inserted_cases j (omega arith)) (inserted_cases k inside);
  }
    where
      go : (j k : ℕ) → j < k → k < length inserted →
          ((j < i) × (slice_index inserted j ≡ slice_index xs j)) ⊎ ((j ≡ i) × (slice_index inserted j ≡ position))
          ⊎ ((i < j) × (j - 1 < length xs) × (slice_index inserted j ≡ slice_index xs (j - 1))) →
          ((k < i) × (slice_index inserted k ≡ slice_index xs k)) ⊎ ((k ≡ i) × (slice_index inserted k ≡ position))
          ⊎ ((i < k) × (k - 1 < length xs) × (slice_index inserted k ≡ slice_index xs (k - 1))) →
          slice_index inserted j < slice_index inserted k
      go j k lt inside (inl u) (inl v) = let w = first.within in let r = rising.rise j k lt (omega (arith, v.0)) in omega (arith, u.1, v.1, r)
      go j k lt inside (inl u) (inr (inl v)) = let r = first.below j u.0 in omega (arith, u.1, v.1, r)
      go j k lt inside (inl u) (inr (inr v)) =
          let low = first.below j u.0 in
          let high = first.above (k - 1) (omega (arith, v.0)) v.1 in
          omega (arith, u.1, v.2, low, high)
      go j k lt inside (inr (inl u)) (inl v) = absurd (omega (arith, u.0, v.0))
      go j k lt inside (inr (inl u)) (inr (inl v)) = absurd (omega (arith, u.0, v.0))
      go j k lt inside (inr (inl u)) (inr (inr v)) =
          let there : i < length xs = omega (arith, v.0, v.1) in
          let above = first.above i (omega arith) there in
          let strict : position < slice_index xs i = lt_of (slice_index xs i) above (new there) in
          ⊎_elim
          (λ (e : i ≡ k - 1). let f = ap (slice_index xs) e in omega (arith, u.1, v.2, strict, f))
          (λ l. let r = rising.rise i (k - 1) l v.1 in omega (arith, u.1, v.2, strict, r))
          (eq_or_less i (k - 1) (omega (arith, v.0)))
        where
          lt_of : (a : ℕ) → position ≤ a → (a ≡ position → ⊥) → position < a
          lt_of a le d = omega arith

          eq_or_less : (a b : ℕ) → a ≤ b → (a ≡ b) ⊎ (a < b)
          eq_or_less a b le = grind arith
      go j k lt inside (inr (inr u)) (inl v) = absurd (omega (arith, u.0, v.0))
      go j k lt inside (inr (inr u)) (inr (inl v)) = absurd (omega (arith, u.0, v.0))
      go j k lt inside (inr (inr u)) (inr (inr v)) =
          let r = rising.rise (j - 1) (k - 1) (omega (arith, u.0)) v.1 in
          omega (arith, u.2, v.2, r)

  pub Has-insert : (q : ℕ) → Has (insert xs i position) q ↔ (Has xs q ⊎ (q ≡ position))
  unfolding inserted
  Has-insert q = (
    λ h. let size = inserted_size in
        ⊎_elim
        (λ u. let w = first.within in inl (record { at = h.at; within = omega (arith, u.0); is = sym u.1 ∙ h.is }))
        (λ v. ⊎_elim
        (λ u. inr (sym h.is ∙ u.1))
        (λ u. inl (record { at = h.at - 1; within = u.1; is = sym u.2 ∙ h.is }))
        v)
        (inserted_cases h.at h.within),
    λ s. ⊎_elim
        (λ h. let size = inserted_size in
        ⊎_elim
        (λ low. record { at = h.at; within = omega (arith, h.within, size); is = inserted_low h.at low ∙ h.is })
        (λ ge. record { at = h.at + 1; within = omega (arith, h.within, size); is = inserted_high h.at ge ∙ h.is })
        (lt_or_ge h.at i))
        (λ e. let size = inserted_size in let w = first.within in record { at = i; within = omega (arith, size, w); is = inserted_at ∙ sym e })
        s,
  )

-- a position that is there already
pub Has-there : (xs : List ℕ) (position : ℕ) → Has xs position → (q : ℕ) → Has xs q ↔ (Has xs q ⊎ (q ≡ position))
Has-there xs position h q = (inl, λ s. ⊎_elim (λ u. u) (λ f. record { at = h.at; within = h.within; is = h.is ∙ sym f }) s)

-- a set with one more position
pub IsSet-insert : (xs ys : List ℕ) (n position : ℕ) → IsSet xs n → position < n → IsRising ys → ((q : ℕ) → Has ys q ↔ (Has xs q ⊎ (q ≡ position))) → IsSet ys n
IsSet-insert xs ys n position set lt rising has = record {
  rising = rising;
  below = λ k inside.
      ⊎_elim
      (λ h. let b = set.below h.at h.within in omega (arith, b, h.is))
      (λ e. omega (arith, e))
      ((has (slice_index ys k)).0 (record { at = k; within = inside; is = refl }));
}

-- Copies that are marked and entered alike.
use Rattle.std.proofs.Common.{◌≡◌, ℕ, zero, suc, ◌+◌, ◌-◌, ◌*◌, ◌<◌, ◌≤◌, ◌↔◌, ◌⊎◌, ◌||◌, Bool, true, false, IsTrue, List, [], ◌∷◌, ◌++◌, length, slice_index, slice_index_or, refl, sym, ap, ◌∙◌, subst, inl, inr, ⊎_elim, arith}
use Rattle.std.proofs.lemmas.List.{get_or_append_left}
use Rattle.logos_positions.specs.Core.{Core, width, Steps}
use Rattle.logos_positions.specs.Marks.{IsRising, Has, IsFirstFrom, IsSet}
use Rattle.logos_positions.specs.Repeat.{in_front, up_to}
use Rattle.logos_positions.specs.inside.Stepped.{Stepped, Owes}
use Rattle.logos_positions.specs.inside.Repeated.{Repeated}
use Rattle.logos_hir.specs.declared.hir.Look.{Look}
use Rattle.logos_positions.proofs.steps.MarkLemmas.{Has-push, IsSet-push, IsSet-more}
use Rattle.logos_positions.proofs.steps.StepLemmas.{iff_trans, iff_refl, Exits-iff}
use Rattle.logos_positions.proofs.steps.SteppedLemmas.{Steps-iff}
use Rattle.logos_positions.proofs.steps.OweLemmas.{owes_front_step, owes_up_to_step}

lt_or_ge : (a b : ℕ) → (a < b) ⊎ (b ≤ a)
lt_or_ge a b = grind arith

eq_or_lt : (a b : ℕ) → b ≤ a → (b ≡ a) ⊎ (b < a)
eq_or_lt a b h = grind arith

-- a later mark is no lower
pub no_lower : (xs : List ℕ) (i k : ℕ) → IsRising xs → i ≤ k → k < length xs → slice_index xs i ≤ slice_index xs k
no_lower xs i k rising le within =
    ⊎_elim (λ (e : i ≡ k). let same = ap (slice_index xs) e in omega arith)
    (λ lt. let up = rising.rise i k lt within in omega arith) (eq_or_lt k i le)

module _ (xs : List ℕ) (rising : IsRising xs) (base each from to at shift : ℕ) (order : from ≤ to)
    (first : IsFirstFrom xs base from) (past : IsFirstFrom xs (base + each) to) (there : IsFirstFrom xs (base + shift) at)
    (within : at + (to - from) ≤ length xs)
    (same : (k : ℕ) → k < to - from → slice_index xs (at + k) ≡ slice_index xs (from + k) + shift)
    (ends : at + (to - from) < length xs → base + shift + each ≤ slice_index xs (at + (to - from))) where
  -- the copy is marked as the first one
  pub marked_alike : (q : ℕ) → q < each → Has xs (base + shift + q) ↔ Has xs (base + q)
  marked_alike q lt = (
    λ h.
        let is = h.is in
        let n = to - from in
        ⊎_elim
        (λ low. let b = there.below h.at low in absurd (omega (arith, b, is)))
        (λ ge. ⊎_elim
        (λ (inside : h.at < at + n).
        let k = h.at - at in
        let e : at + k ≡ h.at = omega arith in
        let s = same k (omega arith) in
        let f = ap (slice_index xs) e in
        record { at = from + k; within = (let w = past.within in omega arith); is = omega (arith, s, f, is) })
        (λ out.
        let up = no_lower xs (at + n) h.at rising out h.within in
        let end = ends (omega (arith, out, h.within)) in
        absurd (omega (arith, up, end, is, lt)))
        (lt_or_ge h.at (at + n)))
        (lt_or_ge h.at at),
    λ h.
        let is = h.is in
        ⊎_elim
        (λ low. let b = first.below h.at low in absurd (omega (arith, b, is)))
        (λ ge. ⊎_elim
        (λ (inside : h.at < to).
        let k = h.at - from in
        let e : from + k ≡ h.at = omega arith in
        let s = same k (omega arith) in
        let f = ap (slice_index xs) e in
        record { at = at + k; within = omega (arith, within, inside, order, ge); is = omega (arith, s, f, is) })
        (λ out. let a = past.above h.at out h.within in absurd (omega (arith, a, is, lt)))
        (lt_or_ge h.at to))
        (lt_or_ge h.at from),
  )

  -- and the next copy begins after its marks
  pub next_first : IsFirstFrom xs (base + shift + each) (at + (to - from))
  next_first = record {
    within = within;
    below = λ k lt.
        ⊎_elim
        (λ low. let b = there.below k low in omega arith)
        (λ ge.
        let j = k - at in
        let e : at + j ≡ k = omega arith in
        let f = ap (slice_index xs) e in
        let s = same j (omega arith) in
        let b = past.below (from + j) (omega arith) in
        omega (arith, f, s, b))
        (lt_or_ge k at);
    above = λ k le inside. let e = ends (omega (arith, le, inside)) in let up = no_lower xs (at + (to - from)) k rising le inside in omega (arith, e, up);
  }

-- a mark that is there
pub index_is : (xs : List ℕ) (i v : ℕ) → i < length xs → v ≡ slice_index_or xs i v → v ≡ slice_index xs i
index_is [] i v lt e = absurd (omega (arith, lt))
index_is (x ∷ xs) zero v lt e = e
index_is (x ∷ xs) (suc i) v lt e = index_is xs i v (omega (arith, lt)) e

-- one more position is added
pub has_moved : (old xs ys : List ℕ) (from i shift y : ℕ) → ys ≡ xs ++ y ∷ [] → slice_index old i + shift ≡ y → from ≤ i →
    ((q : ℕ) → Has xs q ↔ (Has old q ⊎ ((k : ℕ) × (from ≤ k) × (k < i) × (slice_index old k + shift ≡ q)))) →
    (q : ℕ) → Has ys q ↔ (Has old q ⊎ ((k : ℕ) × (from ≤ k) × (k < i + 1) × (slice_index old k + shift ≡ q)))
has_moved old xs ys from i shift y made is order h q = rw made (
  λ u. ⊎_elim
      (λ v. ⊎_elim inl (λ w. inr (w.0, w.1, omega (arith, w.2), w.3)) ((h q).0 v))
      (λ e. inr (i, order, omega arith, is ∙ sym e))
      ((Has-push xs y q).0 u),
  λ u. (Has-push xs y q).1
      (⊎_elim (λ v. inl ((h q).1 (inl v)))
      (λ w. ⊎_elim
      (λ (e : w.0 ≡ i). inr (sym w.3 ∙ ap (λ k. slice_index old k + shift) e ∙ is))
      (λ lt. inl ((h q).1 (inr (w.0, w.1, lt, w.3))))
      (last_or_lower w.0 i w.2)) u),
)
  where
    last_or_lower : (a b : ℕ) → a < b + 1 → (a ≡ b) ⊎ (a < b)
    last_or_lower a b lt = grind arith

-- a property of the list while positions are added: the positions that are moved are all above
-- `low`
abbrev pub AreMoved : List ℕ → List ℕ → ℕ → ℕ → ℕ → ℕ → Type 0
AreMoved old xs from to i shift = (low high : ℕ) → IsSet old low → low ≤ high → ((k : ℕ) → from ≤ k → k < to → low ≤ slice_index old k + shift) →
    ((k : ℕ) → from ≤ k → k < i → slice_index old k + shift < high) → IsSet xs high

pub set_moved : (old xs ys : List ℕ) (from to i shift y : ℕ) → ys ≡ xs ++ y ∷ [] → slice_index old i + shift ≡ y → from ≤ i → i < to → to ≤ length old →
    AreMoved old xs from to i shift → AreMoved old ys from to (i + 1) shift
set_moved old xs ys from to i shift y made is order lt within h low high set le above below =
    let mine : low ≤ slice_index old i + shift = above i order lt in
    let less : slice_index old i + shift < high = below i order (omega arith) in
    let before = h low y set (omega (arith, mine, is)) above (λ k f l. let up = set.rising.rise k i l (omega (arith, lt, within)) in omega (arith, up, is)) in
    rw made (IsSet-more (xs ++ y ∷ []) (y + 1) high (omega (arith, less, is)) (IsSet-push xs y before))

pub kept_moved : (old xs ys : List ℕ) (y : ℕ) → ys ≡ xs ++ y ∷ [] → length old ≤ length xs → ((k : ℕ) → k < length old → slice_index xs k ≡ slice_index old k) →
    (k : ℕ) → k < length old → slice_index ys k ≡ slice_index old k
kept_moved old xs ys y made longer kept k below = rw made (get_or_append_left xs (y ∷ []) 0 k (omega (arith, below, longer)) ∙ kept k below)

-- the step on one more copy
pub repeated_more : (t : Core) (test : Look → Bool) (x : ℕ) (marks old mid new : List ℕ) (start : ℕ) (left : Bool) (n : ℕ) → Repeated t test x marks old start left n mid →
    Stepped t test x marks mid new (start + width t * n) left left → Repeated t test x marks old start left (n + 1) new
repeated_more t test x marks old mid new start left n h s = let e : n + 1 ≡ suc n = omega arith in rw e (mid, h, s)

module _ (t : Core) (test : Look → Bool) (x : ℕ) (marks before one : List ℕ) (base : ℕ) (left : Bool) (set : IsSet before base)
    (first : Stepped t test x marks before one base left left) where
  -- the positions of the first copy
  of_first : (r : ℕ) → Has one (base + r) ↔ Steps t test x (λ p. Has marks (base + p)) (IsTrue left) r
  of_first r =
      let back : base + r - base ≡ r = omega arith in (
        λ h. ⊎_elim (λ o. let b = set.below o.at o.within in let is = o.is in absurd (omega arith))
            (λ u. subst (Steps t test x (λ p. Has marks (base + p)) (IsTrue left)) back u.1) ((first.has (base + r)).0 h),
        λ s. (first.has (base + r)).1 (inr (omega arith, subst (Steps t test x (λ p. Has marks (base + p)) (IsTrue left)) (sym back) s)),
      )

  -- a copy that is marked alike reads at its positions, moved
  pub stepped_moved : (mid new : List ℕ) (from to start shift : ℕ) → IsFirstFrom one base from → to ≡ length one → start ≡ base + shift →
      ((p : ℕ) → p < width t → Has marks (start + p) ↔ Has marks (base + p)) →
      IsSet new (start + width t) →
      ((k : ℕ) → k < to → slice_index mid k ≡ slice_index one k) →
      ((q : ℕ) → Has new q ↔ (Has mid q ⊎ ((k : ℕ) × (from ≤ k) × (k < to) × (slice_index mid k + shift ≡ q)))) →
      Stepped t test x marks mid new start left left
  stepped_moved mid new from to start shift begins all at alike sets prefix has = record {
    set = sets;
    has = λ q. iff_trans (has q) (
      λ u. ⊎_elim inl (λ w.
          let k = w.0 in
          let low = begins.above k w.1 (omega (arith, w.2, all)) in
          let same = prefix k w.2 in
          let moved = w.3 in
          let r : base + (q - start) ≡ slice_index one k = omega (arith, low, same, moved, at) in
          inr (
            omega (arith, low, same, moved, at),
            (steps (q - start)).0 ((of_first (q - start)).0 (record { at = k; within = omega (arith, w.2, all); is = sym r })),
          )) u,
      λ u. ⊎_elim inl (λ w.
          let h = (of_first (q - start)).1 ((steps (q - start)).1 w.1) in
          let is = h.is in
          let k = h.at in
          ⊎_elim
          (λ low. let b = begins.below k low in absurd (omega (arith, b, is)))
          (λ ge.
          let inside : k < to = omega (arith, h.within, all) in
          let same = prefix k inside in
          inr (k, ge, inside, omega (arith, same, is, w.0, at)))
          (lt_or_ge k from)) u,
    );
    leaves = iff_trans first.leaves (Exits-iff t test _ _ _ _ (λ p lt. ((alike p lt).1, (alike p lt).0)) (iff_refl _));
  }
    where
      steps : (r : ℕ) → Steps t test x (λ p. Has marks (base + p)) (IsTrue left) r ↔ Steps t test x (λ p. Has marks (start + p)) (IsTrue left) r
      steps r = Steps-iff t test x _ _ _ _ r r refl (λ p lt. ((alike p lt).1, (alike p lt).0)) (iff_refl _)

module _ (test : Look → Bool) (x : ℕ) (marks : List ℕ) (whole : Core) (old : List ℕ) (base : ℕ) (entered : Bool) (a : Core) (w : ℕ) (is : w ≡ width a) where
  at_start : (done n : ℕ) → base + w * (done + n) ≡ base + w * done + width a * n
  at_start done n = split w done n base ∙ ap (λ k. base + w * done + k * n) is
    where
      split : (w d j base : ℕ) → base + w * (d + j) ≡ base + w * d + w * j
      split w d j base = omega arith

  next_number : (done n : ℕ) → done + n + 1 ≡ done + suc n
  next_number done n = omega arith

  -- n more copies are done
  pub owes_front_more : (b : Core) (n done count : ℕ) (mid new : List ℕ) (left any : Bool) → done + n ≤ count →
      Owes whole (in_front (count - done) a b) test x marks old mid base (base + w * done) entered left any →
      Repeated a test x marks mid (base + w * done) left n new →
      Owes whole (in_front (count - (done + n)) a b) test x marks old new base (base + w * (done + n)) entered left any
  owes_front_more b zero done count mid new left any le h r = let e : done + 0 ≡ done = omega arith in rw (r, e) h
  owes_front_more b (suc n) done count mid new left any le h r =
      rw (← next_number done n)
      (owes_front_step test x marks whole old base entered a w is b (done + n) count r.0 new left left any (omega arith)
      (owes_front_more b n done count mid r.0 left any (omega arith) h r.1)
      (rw (at_start done n) r.2))

  pub owes_up_to_more : (n done count : ℕ) (mid new : List ℕ) (left any : Bool) → done + n ≤ count → (0 < n → (any || left) ≡ any) →
      Owes whole (up_to (count - done) a) test x marks old mid base (base + w * done) entered left any →
      Repeated a test x marks mid (base + w * done) left n new →
      Owes whole (up_to (count - (done + n)) a) test x marks old new base (base + w * (done + n)) entered left any
  owes_up_to_more zero done count mid new left any le stays h r = let e : done + 0 ≡ done = omega arith in rw (r, e) h
  owes_up_to_more (suc n) done count mid new left any le stays h r =
      rw (← next_number done n)
      (subst (λ (t : Bool). Owes whole (up_to (count - (done + n + 1)) a) test x marks old new base (base + w * (done + n + 1)) entered left t) (stays (omega arith))
      (owes_up_to_step test x marks whole old base entered a w is (done + n) count r.0 new left left any (omega arith)
      (owes_up_to_more n done count mid r.0 left any (omega arith) (λ some. stays (omega arith)) h r.1)
      (rw (at_start done n) r.2)))

-- a copy that is entered and left alike adds no way out before
pub stays_any : (any entered left : Bool) → left ≡ entered → ((any || entered) || left) ≡ (any || entered)
stays_any true entered left e = refl
stays_any false true left e = refl
stays_any false false left e = e

-- the steps on more copies, the first of which has the number `done`
pub repeated_here : (test : Look → Bool) (x : ℕ) (marks : List ℕ) (a : Core) (base w done : ℕ) (before one new : List ℕ) (start each : ℕ) (entered enters left : Bool) (n : ℕ) →
    start ≡ base + w * done → each ≡ w → enters ≡ entered → w ≡ width a → IsSet before (base + w * done) →
    Stepped a test x marks before one (base + w * done) entered left →
    ((t : Core) (before : List ℕ) → each ≡ width t → IsSet before start → Stepped t test x marks before one start enters left → Repeated t test x marks one (start + each) left n new) →
    Repeated a test x marks one (base + w * (done + 1)) left n new
repeated_here test x marks a base w done before one new start each entered enters left n begins same as_was is set first more =
    let end : start + each ≡ base + w * (done + 1) = omega (arith, begins, same) in
    subst (λ s. Repeated a test x marks one s left n new) end
    (more a before (same ∙ is) (rw begins set) (rw (begins, as_was) first))

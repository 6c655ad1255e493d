-- Steps on several patterns.
use Rattle.std.proofs.Common.{◌≡◌, ℕ, zero, suc, ◌+◌, ◌-◌, ◌<◌, ◌≤◌, ◌↔◌, ◌⊎◌, Bool, true, false, IsTrue, List, [], ◌∷◌, ◌++◌, length, if◌then◌else◌, refl, sym, ap, ◌∙◌, subst, inl, inr, ⊎_elim, true≢false, arith, get_or, slice_index, length-append, drop, map, drop-cons, add-one}
use Rattle.logos_positions.specs.Core.{Core, width, Exits, Steps}
use Rattle.logos_positions.specs.Marks.{Has, IsSet}
use Rattle.logos_positions.specs.Run.{width_of, StepsIn, ExitsIn}
use Rattle.logos_positions.specs.Several.{ReadBy, LeftBy, OwesPositions, OwesNumbers, AreFirstStarts, AreStarts}
use Rattle.logos_positions.specs.inside.Stepped.{Stepped}
use Rattle.logos_hir.specs.declared.hir.Look.{Look}
use Rattle.std.proofs.lemmas.List.{get_or_append_left}
use Rattle.std.proofs.Math.Seq.{get_or-append_seam}
use Rattle.logos_positions.specs.Node.{core_of, is_measured, AreMeasured}
use Rattle.logos_positions.specs.declared.node.Node.{Node}
use Rattle.logos_positions.proofs.steps.PositionLemmas.{Exits-map, Steps-map}
use Rattle.logos_positions.proofs.steps.MarkLemmas.{Has-push, IsSet-push, IsSet-more}
use Rattle.logos_positions.proofs.steps.SteppedLemmas.{Steps-below, Exits-void, stepped_nothing}

pub StepsIn-map : (ts : List Core) (test : Look → Bool) (x : ℕ) (M N : ℕ → Type 0) (d e : Type 0) (p : ℕ) →
    ((q : ℕ) → q < width_of ts → M q → N q) → (d → e) → StepsIn ts test x M d p → StepsIn ts test x N e p
StepsIn-map [] test x M N d e p f g h = h
StepsIn-map (t ∷ ts) test x M N d e p f g h =
    ⊎_elim
    (λ u. inl (u.0, Steps-map t test x M N d e p (λ q lt. f q (omega arith)) g u.1))
    (λ u. inr (u.0, StepsIn-map ts test x (λ q. M (width t + q)) (λ q. N (width t + q)) d e (p - width t) (λ q lt. f (width t + q) (omega arith)) g u.1))
    h

pub ExitsIn-map : (ts : List Core) (k : ℕ) (test : Look → Bool) (M N : ℕ → Type 0) (d e : Type 0) →
    ((q : ℕ) → q < width_of ts → M q → N q) → (d → e) → ExitsIn ts k test M d → ExitsIn ts k test N e
ExitsIn-map [] k test M N d e f g h = h
ExitsIn-map (t ∷ ts) zero test M N d e f g h = Exits-map t test M N d e (λ q lt. f q (omega arith)) g h
ExitsIn-map (t ∷ ts) (suc k) test M N d e f g h =
    ExitsIn-map ts k test (λ q. M (width t + q)) (λ q. N (width t + q)) d e (λ q lt. f (width t + q) (omega arith)) g h

pub StepsIn-below : (ts : List Core) (test : Look → Bool) (x : ℕ) (M : ℕ → Type 0) (d : Type 0) (p : ℕ) → StepsIn ts test x M d p → p < width_of ts
StepsIn-below [] test x M d p h = absurd h
StepsIn-below (t ∷ ts) test x M d p h =
    ⊎_elim (λ u. omega (arith, u.0)) (λ u. omega (arith, u.0, StepsIn-below ts test x _ d (p - width t) u.1)) h

pub no_positions : IsSet [] 0
no_positions = record {
  rising = record { rise = λ i j lt inside. absurd (omega (arith, inside)) };
  below = λ k inside. absurd (omega (arith, inside));
}

pub none_there : (q : ℕ) → Has [] q → ⊥
none_there q h = let w = h.within in omega arith

-- the numbers with one more, if it is one of them
noted : List ℕ → ℕ → Bool → List ℕ
noted numbers n is = if is then numbers ++ n ∷ [] else numbers

noted_set : (numbers : List ℕ) (n : ℕ) (is : Bool) → IsSet numbers n → IsSet (noted numbers n is) (n + 1)
unfolding noted
noted_set numbers n true h = IsSet-push numbers n h
noted_set numbers n false h = IsSet-more numbers n (n + 1) (omega arith) h

noted_has : (numbers : List ℕ) (n : ℕ) (is : Bool) (k : ℕ) → Has (noted numbers n is) k ↔ (Has numbers k ⊎ ((k ≡ n) × IsTrue is))
unfolding noted
noted_has numbers n true k = (
  λ h. ⊎_elim inl (λ e. inr (e, refl)) ((Has-push numbers n k).0 h),
  λ s. (Has-push numbers n k).1 (⊎_elim inl (λ u. inr u.0) s),
)
noted_has numbers n false k = (inl, λ s. ⊎_elim (λ h. h) (λ u. absurd (true≢false (sym u.1))) s)

module _ (test : Look → Bool) (M : ℕ → Type 0) (d : Type 0) where
  pub owes_positions_all : (ts : List Core) (x : ℕ) → OwesPositions ts ts test x M d 0 []
  owes_positions_all ts x = record {
    placed = omega arith;
    set = no_positions;
    has = λ q. (
      λ s. ⊎_elim (λ h. absurd (none_there q h)) (λ u. out q u.1) s,
      λ h. inr (omega arith, into q h),
    );
  }
    where
      out : (q : ℕ) → StepsIn ts test x (λ p. M (0 + p)) d (q - 0) → StepsIn ts test x M d q
      out q h = let z : q - 0 ≡ q = omega arith in subst (StepsIn ts test x M d) z (StepsIn-map ts test x (λ p. M (0 + p)) M d d (q - 0) (λ p lt. subst M (omega arith)) (λ u. u) h)

      into : (q : ℕ) → StepsIn ts test x M d q → StepsIn ts test x (λ p. M (0 + p)) d (q - 0)
      into q h = let z : q ≡ q - 0 = omega arith in subst (StepsIn ts test x (λ p. M (0 + p)) d) z (StepsIn-map ts test x M (λ p. M (0 + p)) d d q (λ p lt. subst M (omega arith)) (λ u. u) h)

  pub owes_numbers_all : (ts : List Core) → OwesNumbers ts ts test M d 0 0 []
  owes_numbers_all ts = record {
    count = omega arith;
    set = no_positions;
    has = λ k. (
      λ s. ⊎_elim (λ h. absurd (none_there k h)) (λ u. out k u.1) s,
      λ h. inr (omega arith, into k h),
    );
  }
    where
      out : (k : ℕ) → ExitsIn ts (k - 0) test (λ p. M (0 + p)) d → ExitsIn ts k test M d
      out k h = let z : k - 0 ≡ k = omega arith in subst (λ j. ExitsIn ts j test M d) z (ExitsIn-map ts (k - 0) test (λ p. M (0 + p)) M d d (λ p lt. subst M (omega arith)) (λ u. u) h)

      into : (k : ℕ) → ExitsIn ts k test M d → ExitsIn ts (k - 0) test (λ p. M (0 + p)) d
      into k h = let z : k ≡ k - 0 = omega arith in subst (λ j. ExitsIn ts j test (λ p. M (0 + p)) d) z (ExitsIn-map ts k test M (λ p. M (0 + p)) d d (λ p lt. subst M (omega arith)) (λ u. u) h)

  pub owes_positions_none : (ts : List Core) (x base : ℕ) (positions : List ℕ) → OwesPositions ts [] test x M d base positions → ReadBy ts test x M d positions
  owes_positions_none ts x base positions o = record {
    set = IsSet-more positions base (width_of ts) (omega (arith, o.placed)) o.set;
    has = λ q. (λ h. (o.has q).0 (inl h), λ h. ⊎_elim (λ u. u) (λ u. absurd u.1) ((o.has q).1 h));
  }

  pub owes_numbers_none : (ts : List Core) (base n : ℕ) (numbers : List ℕ) → OwesNumbers ts [] test M d base n numbers → LeftBy ts test M d numbers
  owes_numbers_none ts base n numbers o = record {
    set = IsSet-more numbers n (length ts) (omega (arith, o.count)) o.set;
    has = λ k. (λ h. (o.has k).0 (inl h), λ h. ⊎_elim (λ u. u) (λ u. absurd u.1) ((o.has k).1 h));
  }

  -- one more pattern is tested
  pub owes_numbers_step : (ts rest : List Core) (t : Core) (base n : ℕ) (numbers new : List ℕ) (left : Bool) →
      OwesNumbers ts (t ∷ rest) test M d base n numbers → IsTrue left ↔ Exits t test (λ p. M (base + p)) d →
      new ≡ (if left then numbers ++ n ∷ [] else numbers) → OwesNumbers ts rest test M d (base + width t) (n + 1) new
  unfolding noted
  owes_numbers_step ts rest t base n numbers new left o leaves is = record {
    count = omega (arith, o.count);
    set = rw is (noted_set numbers n left o.set);
    has = λ k. (
      λ s. (o.has k).0 (⊎_elim
          (λ h. ⊎_elim inl (λ u. inr (omega (arith, u.0), first k u.0 (leaves.0 u.1))) ((noted_has numbers n left k).0 (rw is at h)))
          (λ u. inr (omega (arith, u.0), later k u.0 u.1)) s),
      λ h. ⊎_elim
          (λ u. inl (rw is ((noted_has numbers n left k).1 (inl u))))
          (λ u. back k u.0 u.1)
          ((o.has k).1 h),
    );
  }
    where
      first : (k : ℕ) → k ≡ n → Exits t test (λ p. M (base + p)) d → ExitsIn (t ∷ rest) (k - n) test (λ p. M (base + p)) d
      first k e h = let z : 0 ≡ k - n = omega (arith, e) in subst (λ j. ExitsIn (t ∷ rest) j test (λ p. M (base + p)) d) z h

      later : (k : ℕ) → n + 1 ≤ k → ExitsIn rest (k - (n + 1)) test (λ p. M (base + width t + p)) d → ExitsIn (t ∷ rest) (k - n) test (λ p. M (base + p)) d
      later k le h =
          let z : suc (k - (n + 1)) ≡ k - n = omega (arith, le) in
          subst (λ j. ExitsIn (t ∷ rest) j test (λ p. M (base + p)) d) z
          (ExitsIn-map rest (k - (n + 1)) test (λ p. M (base + width t + p)) (λ p. M (base + (width t + p))) d d (λ q lt. subst M (omega arith)) (λ u. u) h)

      back : (k : ℕ) → n ≤ k → ExitsIn (t ∷ rest) (k - n) test (λ p. M (base + p)) d →
          Has new k ⊎ ((n + 1 ≤ k) × ExitsIn rest (k - (n + 1)) test (λ p. M (base + width t + p)) d)
      back k le h = go (k - n) refl h
        where
          go : (j : ℕ) → k - n ≡ j → ExitsIn (t ∷ rest) j test (λ p. M (base + p)) d → Has new k ⊎ ((n + 1 ≤ k) × ExitsIn rest (k - (n + 1)) test (λ p. M (base + width t + p)) d)
          go zero e h = inl (rw is ((noted_has numbers n left k).1 (inr (omega (arith, e, le), leaves.1 h))))
          go (suc j) e h =
              let z : j ≡ k - (n + 1) = omega (arith, e) in
              inr (
                omega (arith, e),
                subst (λ j. ExitsIn rest j test (λ p. M (base + width t + p)) d) z
                    (ExitsIn-map rest j test (λ p. M (base + (width t + p))) (λ p. M (base + width t + p)) d d (λ q lt. subst M (omega arith)) (λ u. u) h),
              )

-- one more pattern reads
pub owes_positions_step : (test : Look → Bool) (marks : List ℕ) (entered left : Bool) (ts rest : List Core) (t : Core) (x base : ℕ) (positions new : List ℕ) →
    OwesPositions ts (t ∷ rest) test x (Has marks) (IsTrue entered) base positions → Stepped t test x marks positions new base entered left →
    OwesPositions ts rest test x (Has marks) (IsTrue entered) (base + width t) new
owes_positions_step test marks entered left ts rest t x base positions new o s = record {
  placed = omega (arith, o.placed);
  set = s.set;
  has = λ q. (
    λ u. (o.has q).0 (⊎_elim
        (λ h. ⊎_elim inl (λ v. inr (v.0, inl (below q v.0 v.1, v.1))) ((s.has q).0 h))
        (λ v. inr (omega (arith, v.0), inr (omega (arith, v.0), later q v.0 v.1))) u),
    λ h. ⊎_elim
        (λ v. inl ((s.has q).1 (inl v)))
        (λ v. ⊎_elim
        (λ w. inl ((s.has q).1 (inr (v.0, w.1))))
        (λ w. inr (omega (arith, v.0, w.0), back q v.0 w.0 w.1)) v.1)
        ((o.has q).1 h),
  );
}
  where
    M : ℕ → Type 0
    M = Has marks

    below : (q : ℕ) → base ≤ q → Steps t test x (λ p. Has marks (base + p)) (IsTrue entered) (q - base) → q - base < width t
    below q le h = Steps-below t test x (λ p. Has marks (base + p)) (IsTrue entered) (q - base) h

    later : (q : ℕ) → base + width t ≤ q → StepsIn rest test x (λ p. Has marks (base + width t + p)) (IsTrue entered) (q - (base + width t)) →
        StepsIn rest test x (λ p. Has marks (base + (width t + p))) (IsTrue entered) (q - base - width t)
    later q le h =
        let z : q - (base + width t) ≡ q - base - width t = omega arith in
        subst (StepsIn rest test x (λ p. Has marks (base + (width t + p))) (IsTrue entered)) z
        (StepsIn-map rest test x (λ p. Has marks (base + width t + p)) (λ p. Has marks (base + (width t + p))) (IsTrue entered) (IsTrue entered) (q - (base + width t))
        (λ q lt. subst (Has marks) (omega arith)) (λ u. u) h)

    back : (q : ℕ) → base ≤ q → width t ≤ q - base → StepsIn rest test x (λ p. Has marks (base + (width t + p))) (IsTrue entered) (q - base - width t) →
        StepsIn rest test x (λ p. Has marks (base + width t + p)) (IsTrue entered) (q - (base + width t))
    back q le more h =
        let z : q - base - width t ≡ q - (base + width t) = omega arith in
        subst (StepsIn rest test x (λ p. Has marks (base + width t + p)) (IsTrue entered)) z
        (StepsIn-map rest test x (λ p. Has marks (base + (width t + p))) (λ p. Has marks (base + width t + p)) (IsTrue entered) (IsTrue entered) (q - base - width t)
        (λ q lt. subst (Has marks) (omega arith)) (λ u. u) h)

-- the first of the nodes that are left
module _ (nodes : List Node) (i : ℕ) (node : Node) (lt : i < length nodes) (is : node ≡ get_or nodes i node) where
  next_node : drop i nodes ≡ node ∷ drop (i + 1) nodes
  next_node =
      let e : drop i nodes ≡ get_or nodes i node ∷ drop (i + 1) nodes = drop-cons nodes i node lt ∙ ap (λ k. get_or nodes i node ∷ drop k nodes) (sym (add-one i)) in
      e ∙ ap (λ n. n ∷ drop (i + 1) nodes) (sym is)

  pub next_core : map core_of (drop i nodes) ≡ core_of node ∷ map core_of (drop (i + 1) nodes)
  next_core = ap (map core_of) next_node

  pub next_measured : AreMeasured nodes → IsTrue (is_measured node)
  next_measured h = go nodes i lt is h
    where
      go : (nodes : List Node) (i : ℕ) → i < length nodes → node ≡ get_or nodes i node → AreMeasured nodes → IsTrue (is_measured node)
      go [] i lt is h = absurd (omega (arith, lt))
      go (n ∷ nodes) zero lt is h = subst (λ n. IsTrue (is_measured n)) (sym is) h.0
      go (n ∷ nodes) (suc i) lt is h = go nodes i (omega (arith, lt)) is h.1

-- the first positions of the trees
pub no_starts : (nodes : List Node) → AreFirstStarts nodes [] 0
no_starts nodes = record { count = refl; begins = λ i lt. absurd (omega (arith, lt)) }

pub more_starts : (nodes : List Node) (starts new : List ℕ) (base n : ℕ) → new ≡ starts ++ base ∷ [] → base + width_of (map core_of (drop n nodes)) ≡ width_of (map core_of nodes) →
    AreFirstStarts nodes starts n → AreFirstStarts nodes new (n + 1)
more_starts nodes starts new base n is placed s = record {
  count = ap length is ∙ length-append starts (base ∷ []) ∙ ap (λ k. k + 1) s.count;
  begins = λ i lt.
      ⊎_elim
      (λ (low : i < n).
      let kept : slice_index new i ≡ slice_index starts i = ap (λ (xs : List ℕ). slice_index xs i) is ∙ get_or_append_left starts (base ∷ []) 0 i (omega (arith, s.count, low)) in
      rw kept (s.begins i low))
      (λ (last : i ≡ n).
      let here : i ≡ length starts = last ∙ sym s.count in
      let put : slice_index new i ≡ base = ap (λ (xs : List ℕ). slice_index xs i) is ∙ ap (λ k. slice_index (starts ++ base ∷ []) k) here ∙ get_or-append_seam starts base [] 0 in
      rw put (rw last placed))
      (low_or_last i n lt);
}
  where
    low_or_last : (a b : ℕ) → a < b + 1 → (a < b) ⊎ (a ≡ b)
    low_or_last a b lt = grind arith

pub node_at : (nodes : List Node) (i : ℕ) → i < length nodes → (node : Node) × (node ≡ get_or nodes i node)
node_at [] i lt = absurd (omega (arith, lt))
node_at (n ∷ nodes) zero lt = (n, refl)
node_at (n ∷ nodes) (suc i) lt = node_at nodes i (omega (arith, lt))

module _ (nodes : List Node) (starts : List ℕ) (are : AreStarts nodes starts) where
  pub first_start : slice_index starts 0 ≡ 0
  first_start = let e : slice_index starts 0 + width_of (map core_of nodes) ≡ width_of (map core_of nodes) = are.begins 0 (omega arith) in omega (arith, e)

  pub start_fits : (i : ℕ) (node : Node) → i < length nodes → node ≡ get_or nodes i node → slice_index starts i + width (core_of node) ≤ width_of (map core_of nodes)
  start_fits i node lt is =
      let e = are.begins i (omega (arith, lt)) in
      let next = next_core nodes i node lt is in
      omega (arith, rw next at e)

  pub next_start : (i : ℕ) (node : Node) → i < length nodes → node ≡ get_or nodes i node → slice_index starts i + width (core_of node) ≡ slice_index starts (i + 1)
  next_start i node lt is =
      let e = are.begins i (omega (arith, lt)) in
      let f = are.begins (i + 1) (omega (arith, lt)) in
      let next = next_core nodes i node lt is in
      omega (arith, rw next at e, f)

  starts_rise : (d i : ℕ) → i + d ≤ length nodes → slice_index starts i ≤ slice_index starts (i + d)
  starts_rise zero i le = let e : i ≡ i + 0 = omega arith in let f = ap (slice_index starts) e in omega (arith, f)
  starts_rise (suc d) i le =
      let node = node_at nodes i (omega (arith, le)) in
      let next = next_start i node.0 (omega (arith, le)) node.1 in
      let rest = starts_rise d (i + 1) (omega (arith, le)) in
      let e : i + 1 + d ≡ i + suc d = omega arith in
      let f = ap (slice_index starts) e in
      omega (arith, next, rest, f)

  -- trees without marks are passed
  module _ (marks : List ℕ) where
    abbrev pub Unmarked : ℕ → ℕ → Type 0
    Unmarked i j = (q : ℕ) → slice_index starts i ≤ q → q < slice_index starts j → Has marks q → ⊥

    passed : (P : ℕ → Type 0) → ((i : ℕ) → i < length nodes → Unmarked i (i + 1) → P i → P (i + 1)) →
        (d i : ℕ) → i + d ≤ length nodes → Unmarked i (i + d) → P i → P (i + d)
    passed P one zero i le none h = let e : i ≡ i + 0 = omega arith in subst P e h
    passed P one (suc d) i le none h =
        let e : i + 1 + d ≡ i + suc d = omega arith in
        let f = ap (slice_index starts) e in
        let first : Unmarked i (i + 1) = λ q low high. let up = starts_rise d (i + 1) (omega (arith, le)) in none q low (omega (arith, up, high, f)) in
        let later : Unmarked (i + 1) (i + 1 + d) = λ q low high. let up = starts_rise 1 i (omega (arith, le)) in none q (omega (arith, up, low)) (omega (arith, high, f)) in
        subst P e (passed P one d (i + 1) (omega (arith, le)) later (one i (omega (arith, le)) first h))

    pub passed_to : (P : ℕ → Type 0) → ((i : ℕ) → i < length nodes → Unmarked i (i + 1) → P i → P (i + 1)) →
        (i j : ℕ) → i ≤ j → j ≤ length nodes → Unmarked i j → P i → P j
    passed_to P one i j le within none h =
        let e : j ≡ i + (j - i) = omega (arith, le) in
        subst P (sym e) (passed P one (j - i) i (omega (arith, le, within)) (subst (Unmarked i) e none) h)

    pub none_in : (i : ℕ) (node : Node) → i < length nodes → node ≡ get_or nodes i node → Unmarked i (i + 1) →
        (q : ℕ) → q < width (core_of node) → Has marks (slice_index starts i + q) → ⊥
    none_in i node lt is none q below has =
        let next = next_start i node lt is in
        none (slice_index starts i + q) (omega arith) (omega (arith, next, below)) has

    module _ (test : Look → Bool) (ts : List Core) where
      abbrev NumbersFrom : Bool → List ℕ → ℕ → Type 0
      NumbersFrom entered numbers i = OwesNumbers ts (map core_of (drop i nodes)) test (Has marks) (IsTrue entered) (slice_index starts i) i numbers

      abbrev PositionsFrom : ℕ → Bool → List ℕ → ℕ → Type 0
      PositionsFrom x entered positions i = OwesPositions ts (map core_of (drop i nodes)) test x (Has marks) (IsTrue entered) (slice_index starts i) positions

      -- a tree is tested
      pub numbers_after : (entered left : Bool) (numbers new : List ℕ) (i : ℕ) (node : Node) → i < length nodes → node ≡ get_or nodes i node →
          IsTrue left ↔ Exits (core_of node) test (λ p. Has marks (slice_index starts i + p)) (IsTrue entered) →
          new ≡ (if left then numbers ++ i ∷ [] else numbers) → NumbersFrom entered numbers i → NumbersFrom entered new (i + 1)
      numbers_after entered left numbers new i node lt is leaves made o =
          rw (← next_start i node lt is)
          (owes_numbers_step test (Has marks) (IsTrue entered) ts (map core_of (drop (i + 1) nodes)) (core_of node) (slice_index starts i) i numbers new left
          (rw (next_core nodes i node lt is) at o) leaves made)

      pub positions_after : (x : ℕ) (entered left : Bool) (positions new : List ℕ) (i : ℕ) (node : Node) → i < length nodes → node ≡ get_or nodes i node →
          Stepped (core_of node) test x marks positions new (slice_index starts i) entered left → PositionsFrom x entered positions i → PositionsFrom x entered new (i + 1)
      positions_after x entered left positions new i node lt is s o =
          rw (← next_start i node lt is)
          (owes_positions_step test marks entered left ts (map core_of (drop (i + 1) nodes)) (core_of node) x (slice_index starts i) positions new
          (rw (next_core nodes i node lt is) at o) s)

      out : IsTrue false → ⊥
      out e = true≢false (sym e)

      one_number : (numbers : List ℕ) (i : ℕ) → i < length nodes → Unmarked i (i + 1) → NumbersFrom false numbers i → NumbersFrom false numbers (i + 1)
      one_number numbers i lt none o =
          let node = node_at nodes i lt in
          numbers_after false false numbers numbers i node.0 lt node.1 (
            λ e. absurd (out e),
            λ h. absurd (Exits-void (core_of node.0) test (Exits-map (core_of node.0) test _ _ _ ⊥ (none_in i node.0 lt node.1 none) out h)),
          )
          refl o

      one_position : (x : ℕ) (positions : List ℕ) (i : ℕ) → i < length nodes → Unmarked i (i + 1) → PositionsFrom x false positions i → PositionsFrom x false positions (i + 1)
      one_position x positions i lt none o =
          let node = node_at nodes i lt in
          positions_after x false false positions positions i node.0 lt node.1
          (stepped_nothing test x marks (core_of node.0) positions (slice_index starts i) o.set (none_in i node.0 lt node.1 none)) o

      pub pass_numbers : (entered : Bool) (numbers : List ℕ) (i j : ℕ) → i ≤ j → j ≤ length nodes → (IsTrue entered → j ≡ i) → Unmarked i j →
          NumbersFrom entered numbers i → NumbersFrom entered numbers j
      pass_numbers true numbers i j le within stays none o = subst (NumbersFrom true numbers) (sym (stays refl)) o
      pass_numbers false numbers i j le within stays none o = passed_to (NumbersFrom false numbers) (one_number numbers) i j le within none o

      pub pass_positions : (x : ℕ) (entered : Bool) (positions : List ℕ) (i j : ℕ) → i ≤ j → j ≤ length nodes → (IsTrue entered → j ≡ i) → Unmarked i j →
          PositionsFrom x entered positions i → PositionsFrom x entered positions j
      pass_positions x true positions i j le within stays none o = subst (PositionsFrom x true positions) (sym (stays refl)) o
      pass_positions x false positions i j le within stays none o = passed_to (PositionsFrom x false positions) (one_position x positions) i j le within none o

      pub numbers_first : (entered : Bool) → ts ≡ map core_of nodes → NumbersFrom entered [] 0
      numbers_first entered is = rw (first_start, is) (owes_numbers_all test (Has marks) (IsTrue entered) (map core_of nodes))

      pub positions_first : (x : ℕ) (entered : Bool) → ts ≡ map core_of nodes → PositionsFrom x entered [] 0
      positions_first x entered is = rw (first_start, is) (owes_positions_all test (Has marks) (IsTrue entered) (map core_of nodes) x)

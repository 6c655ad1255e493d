-- Copies that are neither entered nor marked are passed.
use Rattle.std.proofs.Common.{◌≡◌, ℕ, zero, suc, ◌+◌, ◌-◌, ◌*◌, ◌<◌, ◌≤◌, ◌↔◌, ◌⊎◌, ◌||◌, Bool, true, false, IsTrue, List, [], ◌∷◌, length, refl, sym, ◌∙◌, subst, true≢false, arith}
use Rattle.std.proofs.Math.Nat.{mul-le-mul_left}
use Rattle.logos_positions.specs.Core.{Core, width, Exits}
use Rattle.logos_positions.specs.Marks.{Has}
use Rattle.logos_positions.specs.Repeat.{in_front, up_to, spelled}
use Rattle.logos_hir.specs.declared.hir.Look.{Look}
use Rattle.logos_positions.proofs.steps.PositionLemmas.{Exits-map}
use Rattle.logos_positions.proofs.steps.StepLemmas.{iff_trans, iff_refl, Exits-iff, Exits-from, Exits-past, Exits-past_up_to}
use Rattle.logos_positions.proofs.steps.SteppedLemmas.{Exits-void}

out : IsTrue false → ⊥
out e = true≢false (sym e)

or_false : (t : Bool) → (t || false) ≡ t
or_false true = refl
or_false false = refl

-- a tree that is neither entered nor marked is not left
pub exits_nothing : (t : Core) (test : Look → Bool) (M : ℕ → Type 0) → ((q : ℕ) → q < width t → M q → ⊥) → IsTrue false ↔ Exits t test M (IsTrue false)
exits_nothing t test M none = (λ e. absurd (out e), λ h. absurd (Exits-void t test (Exits-map t test M _ _ ⊥ none out h)))

module _ (test : Look → Bool) (xs : List ℕ) (a : Core) (w base : ℕ) (is : w ≡ width a) where
  -- the positions of these copies hold no mark
  abbrev pub AreUnmarked : ℕ → ℕ → Type 0
  AreUnmarked from to = (q : ℕ) → w * from ≤ q → q < w * to → Has xs (base + q) → ⊥

  abbrev ExitsAt : Core → ℕ → Bool → Type 0
  ExitsAt t done left = Exits t test (λ q. Has xs (base + w * done + q)) (IsTrue left)

  -- one copy is done
  pub front_step : (b : Core) (done count : ℕ) (left next : Bool) → done < count → IsTrue next ↔ ExitsAt a done left →
      ExitsAt (in_front (count - (done + 1)) a b) (done + 1) next ↔ ExitsAt (in_front (count - done) a b) done left
  front_step b done count left next lt f =
      let e : count - done ≡ suc (count - (done + 1)) = omega arith in
      let k : base + w * (done + 1) ≡ base + w * done + w = omega arith in
      rw e (iff_trans (Exits-from test xs (in_front (count - (done + 1)) a b) _ _ _ _ k (iff_refl _))
      (Exits-past test xs a (in_front (count - (done + 1)) a b) (base + w * done) w (IsTrue left) next is f))

  front_pass : (b : Core) (j done count : ℕ) → done + j ≤ count → AreUnmarked done (done + j) →
      ExitsAt (in_front (count - (done + j)) a b) (done + j) false ↔ ExitsAt (in_front (count - done) a b) done false
  front_pass b zero done count le none = let e : done + 0 ≡ done = omega arith in rw e (iff_refl _)
  front_pass b (suc j) done count le none =
      let e : done + suc j ≡ done + 1 + j = omega arith in
      let few : w * (done + 1) ≤ w * (done + suc j) = mul-le-mul_left w (omega arith) in
      let first : IsTrue false ↔ ExitsAt a done false =
      exits_nothing a test _ (λ q lt has. none (w * done + q) (omega arith) (omega (arith, few, is)) (subst (Has xs) (omega arith) has)) in
      rw e (iff_trans (front_pass b j (done + 1) count (omega arith) (λ q lo hi has. none q (omega (arith, lo)) (rw (← e) at hi) has))
      (front_step b done count false false (omega arith) first))

  pub front_skip : (b : Core) (done next count : ℕ) (left : Bool) → done ≤ next → next ≤ count → (IsTrue left → next ≡ done) → AreUnmarked done next →
      ExitsAt (in_front (count - next) a b) next left ↔ ExitsAt (in_front (count - done) a b) done left
  front_skip b done next count true le fits stays none = let e : next ≡ done = stays refl in rw e (iff_refl _)
  front_skip b done next count false le fits stays none =
      let e : next ≡ done + (next - done) = omega arith in
      rw e (front_pass b (next - done) done count (omega arith) (rw e at none))

  -- copies that have the same positions as one, and are entered as it is, can be left as it can
  pub alike_here : (done start each : ℕ) (entered enters left : Bool) (n : ℕ) → start ≡ base + w * done → each ≡ w → enters ≡ entered → (0 < n → left ≡ enters) →
      IsTrue left ↔ ExitsAt a done entered →
      ((k q : ℕ) → k < n → q < each → Has xs (start + each * (k + 1) + q) ↔ Has xs (start + q)) →
      (k : ℕ) → k < n → IsTrue left ↔ ExitsAt a (done + 1 + k) left
  alike_here done start each entered enters left n begins same as_was stays first alike k lt =
      let e : left ≡ entered = stays (omega (arith, lt)) ∙ as_was in
      let there : start + w * (k + 1) ≡ base + w * (done + 1 + k) = omega (arith, begins) in
      let moved : (q : ℕ) → Has xs (start + w * (k + 1) + q) ↔ Has xs (base + w * (done + 1 + k) + q) = λ q. rw there (iff_refl _) in
      let home : (q : ℕ) → Has xs (start + q) ↔ Has xs (base + w * done + q) = λ q. rw begins (iff_refl _) in
      let here : (q : ℕ) → q < w → Has xs (start + w * (k + 1) + q) ↔ Has xs (start + q) = λ q below. (rw same at alike) k q lt below in
      iff_trans first
      (Exits-iff a test _ _ _ _
      (λ q below. let near = here q (omega (arith, below, is)) in (λ h. (moved q).0 (near.1 ((home q).1 h)), λ h. (home q).0 (near.0 ((moved q).1 h))))
      (rw e (iff_refl _)))

  pub front_more : (b : Core) (n done count : ℕ) (left : Bool) → done + n ≤ count → ((k : ℕ) → k < n → IsTrue left ↔ ExitsAt a (done + k) left) →
      ExitsAt (in_front (count - (done + n)) a b) (done + n) left ↔ ExitsAt (in_front (count - done) a b) done left
  front_more b zero done count left le same = let e : done + 0 ≡ done = omega arith in rw e (iff_refl _)
  front_more b (suc n) done count left le same =
      let e : done + suc n ≡ done + n + 1 = omega arith in
      rw e (iff_trans (front_step b (done + n) count left left (omega arith) (same n (omega arith)))
      (front_more b n done count left (omega arith) (λ k lt. same k (omega (arith, lt)))))

  -- a repetition of at most this number of copies; `any` is whether the whole can be left before
  abbrev OrAt : ℕ → ℕ → Bool → Bool → Type 0
  OrAt n done any left = IsTrue any ⊎ ExitsAt (up_to n a) done left

  pub up_to_step : (done count : ℕ) (any left next : Bool) → done < count → IsTrue next ↔ ExitsAt a done left →
      OrAt (count - (done + 1)) (done + 1) (any || left) next ↔ OrAt (count - done) done any left
  up_to_step done count any left next lt f =
      let e : count - done ≡ suc (count - (done + 1)) = omega arith in
      let k : base + w * (done + 1) ≡ base + w * done + w = omega arith in
      rw (e, k) (Exits-past_up_to test xs (count - (done + 1)) a (base + w * done) w any left next is f)

  up_to_pass : (j done count : ℕ) (any : Bool) → done + j ≤ count → AreUnmarked done (done + j) →
      OrAt (count - (done + j)) (done + j) any false ↔ OrAt (count - done) done any false
  up_to_pass zero done count any le none = let e : done + 0 ≡ done = omega arith in rw e (iff_refl _)
  up_to_pass (suc j) done count any le none =
      let e : done + suc j ≡ done + 1 + j = omega arith in
      let few : w * (done + 1) ≤ w * (done + suc j) = mul-le-mul_left w (omega arith) in
      let first : IsTrue false ↔ ExitsAt a done false =
      exits_nothing a test _ (λ q lt has. none (w * done + q) (omega arith) (omega (arith, few, is)) (subst (Has xs) (omega arith) has)) in
      rw e (iff_trans (up_to_pass j (done + 1) count any (omega arith) (λ q lo hi has. none q (omega (arith, lo)) (rw (← e) at hi) has))
      (subst (λ t. OrAt (count - (done + 1)) (done + 1) t false ↔ OrAt (count - done) done any false) (or_false any)
      (up_to_step done count any false false (omega arith) first)))

  pub up_to_skip : (done next count : ℕ) (any left : Bool) → done ≤ next → next ≤ count → (IsTrue left → next ≡ done) → AreUnmarked done next →
      OrAt (count - next) next any left ↔ OrAt (count - done) done any left
  up_to_skip done next count any true le fits stays none = let e : next ≡ done = stays refl in rw e (iff_refl _)
  up_to_skip done next count any false le fits stays none =
      let e : next ≡ done + (next - done) = omega arith in
      rw e (up_to_pass (next - done) done count any (omega arith) (rw e at none))

  pub up_to_more : (n done count : ℕ) (any left : Bool) → done + n ≤ count → (0 < n → (any || left) ≡ any) → ((k : ℕ) → k < n → IsTrue left ↔ ExitsAt a (done + k) left) →
      OrAt (count - (done + n)) (done + n) any left ↔ OrAt (count - done) done any left
  up_to_more zero done count any left le stays same = let e : done + 0 ≡ done = omega arith in rw e (iff_refl _)
  up_to_more (suc n) done count any left le stays same =
      let e : done + suc n ≡ done + n + 1 = omega arith in
      rw e (iff_trans
      (subst (λ (t : Bool). OrAt (count - (done + n + 1)) (done + n + 1) t left ↔ OrAt (count - (done + n)) (done + n) any left) (stays (omega arith))
      (up_to_step (done + n) count any left left (omega arith) (same n (omega arith))))
      (up_to_more n done count any left (omega arith) (λ some. stays (omega arith)) (λ k lt. same k (omega (arith, lt)))))

-- a literal is left where its last position is marked
pub exits_spelled : (test : Look → Bool) (M : ℕ → Type 0) (d : Type 0) (text : List ℕ) → 0 < length text →
    M (length text - 1) ↔ Exits (spelled text) test M d
exits_spelled test M d [] some = absurd (omega arith)
exits_spelled test M d (b ∷ []) some = go (length (b ∷ []) - 1) (omega arith)
  where
    go : (n : ℕ) → n ≡ 0 → M n ↔ M 0
    go n e = rw e (iff_refl _)
exits_spelled test M d (b ∷ x ∷ text) some =
    let f = exits_spelled test (λ q. M (1 + q)) (M 0) (x ∷ text) (omega arith) in
    let e : length (b ∷ x ∷ text) - 1 ≡ 1 + (length (x ∷ text) - 1) = omega arith in
    rw e f

-- The search, point by point.
use Rattle.std.proofs.Common.{◌≡◌, ℕ, zero, suc, slice_index_or, length-append, ◌+◌, ◌<◌, ◌≤◌, ◌⊎◌, Bool, true, false, List, [], ◌∷◌, ◌++◌, All, Option, Some, None, length, slice_get, option_and_then, refl, sym, ap, ◌∙◌, subst, inl, inr, arith, reverse}
use Rattle.std.proofs.lemmas.Bool.{cases_lt}
use Rattle.std.proofs.lemmas.List.{reverse-append}
use Rattle.std.proofs.lemmas.List.Elements.{All-append}
use Rattle.std.proofs.lemmas.Option.{same_Some, slice_get_within}
use Rattle.logos_evidence.specs.search.Machines.{after}
use Rattle.logos_evidence.specs.search.inside.Visits.{visit_at, depth_at, IsMet, Grows, IsReached, IsTree, LeadsToMet, IsClosed, NoGoal}
use Rattle.logos_evidence.specs.declared.search.visits.PendingPoint.{PendingPoint}
use Rattle.logos_evidence.specs.declared.search.visits.Visit.{Visit}
use Rattle.logos_evidence.proofs.search.ListLemmas.{there}
use Rattle.logos_evidence.proofs.search.VisitLemmas.{met_on}

-- the elements keep their indices
kept : (ks : List PendingPoint) (ws : List Visit) (ms : List PendingPoint) (vs : List Visit) → Grows ks ws ms vs → (i : ℕ) (s : PendingPoint) → i < length ks →
    slice_get ms i ≡ Some s → slice_get ks i ≡ Some s
kept ks ws ms vs g i s l e =
    let t = there ks i l in
    let same : t.0 ≡ s = same_Some _ _ (sym (g.stays i t.0 t.1) ∙ e) in
    t.1 ∙ ap Some same

pub closed_more : (next : PendingPoint → ℕ → Option PendingPoint) (ks : List PendingPoint) (ws : List Visit) (ms : List PendingPoint) (vs : List Visit) (n : ℕ) → n < length ks →
    Grows ks ws ms vs → IsClosed next ks ws n →
    ((b : ℕ) (from : PendingPoint) → slice_get ks n ≡ Some from → b < 256 → LeadsToMet next ms vs from (depth_at ws n) b) → IsClosed next ms vs (n + 1)
closed_more next ks ws ms vs n within g closed here i b from l e is_byte to step = go (cases_lt i n)
  where
    go : (i < n) ⊎ (n ≤ i) → IsMet ms vs to (depth_at vs i + 1)
    go (inl m) =
        let d = g.depths i (omega arith) in
        let met = met_on ks ws ms vs to _ g (closed i b from m (kept ks ws ms vs g i from (omega arith) e) is_byte to step) in
        subst (λ (k : ℕ). IsMet ms vs to (k + 1)) (sym d) met
    go (inr m) =
        let same : i ≡ n = omega arith in
        let at : slice_get ks n ≡ Some from = kept ks ws ms vs g n from within (ap (slice_get ms) (sym same) ∙ e) in
        let d : depth_at ws n ≡ depth_at vs i = sym (g.depths n within) ∙ ap (depth_at vs) (sym same) in
        subst (λ (k : ℕ). IsMet ms vs to (k + 1)) d (here b from at is_byte to step)

pub no_goal_more : (is_goal : PendingPoint → Bool) (ks : List PendingPoint) (ws : List Visit) (ms : List PendingPoint) (vs : List Visit) (n : ℕ) (at : PendingPoint) →
    slice_get ks n ≡ Some at → is_goal at ≡ false → Grows ks ws ms vs → NoGoal is_goal ks n → NoGoal is_goal ms (n + 1)
no_goal_more is_goal ks ws ms vs n at points out g none i s l e = go (cases_lt i n)
  where
    inside : n < length ks
    inside = slice_get_within ks n at points

    before : slice_get ks i ≡ Some s
    before = kept ks ws ms vs g i s (omega (arith, inside)) e

    go : (i < n) ⊎ (n ≤ i) → is_goal s ≡ false
    go (inl m) = none i s m before
    go (inr m) =
        let same : i ≡ n = omega arith in
        let at_is : at ≡ s = same_Some _ _ (sym points ∙ ap (slice_get ks) (sym same) ∙ before) in
        subst (λ (t : PendingPoint). is_goal t ≡ false) at_is out

-- ---- One more byte before a way

module _ (next : PendingPoint → ℕ → Option PendingPoint) (ks : List PendingPoint) (ws : List Visit) (tree : IsTree next ks ws) (at : ℕ) (positive : 0 < at) (inside : at < length ks) where
  reached : IsReached next ks ws at
  reached = tree.reached at positive inside

  pub bytes_more : (bytes more : List ℕ) → more ≡ bytes ++ (visit_at ws at).byte ∷ [] → All (λ x. x < 256) bytes → All (λ x. x < 256) more
  bytes_more bytes more e are =
      subst (All (λ x. x < 256)) (sym e) (All-append (λ x. x < 256) bytes ((visit_at ws at).byte ∷ []) are (λ k d l. one k d l))
    where
      one : (k d : ℕ) → k < length ((visit_at ws at).byte ∷ []) → slice_index_or ((visit_at ws at).byte ∷ []) k d < 256
      one zero d l = reached.is_byte
      one (suc k) d l = absurd (omega arith)

  pub size_more : (bytes more : List ℕ) (depth : ℕ) → more ≡ bytes ++ (visit_at ws at).byte ∷ [] → length bytes + depth_at ws at ≡ depth →
      length more + depth_at ws (visit_at ws at).from ≡ depth
  size_more bytes more depth e h =
      let n : length more ≡ length bytes + 1 = ap length e ∙ length-append bytes ((visit_at ws at).byte ∷ []) in
      let d = reached.depth in
      omega (arith, n, d, h)

  pub way_more : (bytes more : List ℕ) (from to : PendingPoint) → more ≡ bytes ++ (visit_at ws at).byte ∷ [] → slice_get ks (visit_at ws at).from ≡ Some from →
      ((p : PendingPoint) → slice_get ks at ≡ Some p → after next p (reverse bytes) ≡ Some to) → after next from (reverse more) ≡ Some to
  way_more bytes more from to e there rest =
      let turned : reverse more ≡ (visit_at ws at).byte ∷ reverse bytes = ap reverse e ∙ reverse-append bytes ((visit_at ws at).byte ∷ []) in
      let same : reached.from ≡ from = same_Some _ _ (sym reached.occurs_before ∙ there) in
      let step : next from (visit_at ws at).byte ≡ Some reached.to = subst (λ (p : PendingPoint). next p (visit_at ws at).byte ≡ Some reached.to) same reached.step in
      ap (after next from) turned ∙ ap (option_and_then (λ q. after next q (reverse bytes))) step ∙ rest reached.to reached.occurs_there

-- ---- All ways

head_of : (bytes : List ℕ) (b : ℕ) → All (λ x. x < 256) (b ∷ bytes) → (b < 256) × All (λ x. x < 256) bytes
head_of bytes b h = (h 0 0 (omega arith), λ k d lt. h (suc k) d (omega (arith, lt)))

module _ (next : PendingPoint → ℕ → Option PendingPoint) (is_goal : PendingPoint → Bool) (ks : List PendingPoint) (ws : List Visit) (n : ℕ) (tree : IsTree next ks ws)
    (closed : IsClosed next ks ws n) (none : NoGoal is_goal ks n) where
  -- the next pending point on a way
  step_of : (p : PendingPoint) (b : ℕ) (bytes : List ℕ) (q : PendingPoint) → option_and_then (λ s. after next s bytes) (next p b) ≡ Some q →
      (t : PendingPoint) × (next p b ≡ Some t) × (after next t bytes ≡ Some q)
  step_of p b bytes q e = go (next p b) refl e
    where
      go : (o : Option PendingPoint) → next p b ≡ o → option_and_then (λ s. after next s bytes) o ≡ Some q → (t : PendingPoint) × (next p b ≡ Some t) × (after next t bytes ≡ Some q)
      go None is e = absurd (let clash : None ≡ Some q = e in cc)
      go (Some t) is e = (t, is, e)

  abbrev IsFar : List ℕ → PendingPoint → Type 0
  IsFar bytes q = (j : ℕ) (t : PendingPoint) → All (λ x. x < 256) bytes → slice_get ks j ≡ Some t → after next t bytes ≡ Some q → is_goal q ≡ true →
      depth_at ws n ≤ depth_at ws j + length bytes

  -- each goal lies at least as far as the pending point with this number
  pub far : (bytes : List ℕ) (i : ℕ) (p q : PendingPoint) → n < length ks → All (λ x. x < 256) bytes → slice_get ks i ≡ Some p → after next p bytes ≡ Some q →
      is_goal q ≡ true → depth_at ws n ≤ depth_at ws i + length bytes
  far [] i p q l are at way goal = go (cases_lt i n)
    where
      same : p ≡ q
      same = same_Some _ _ way

      go : (i < n) ⊎ (n ≤ i) → depth_at ws n ≤ depth_at ws i + 0
      go (inl m) =
          let out : is_goal q ≡ false = subst (λ (s : PendingPoint). is_goal s ≡ false) same (none i p m at) in
          absurd (let clash : true ≡ false = sym goal ∙ out in cc)
      go (inr m) = let r = tree.rising n i m (slice_get_within ks i p at) in omega (arith, r)
  far (b ∷ bytes) i p q l are at way goal = go (λ j t. far bytes j t q l) (cases_lt i n)
    where
      on : IsFar bytes q → (i < n) → depth_at ws n ≤ depth_at ws i + length (b ∷ bytes)
      on ih m =
          let s = step_of p b bytes q way in
          let met = closed i b p m at (head_of bytes b are).0 s.0 s.1 in
          let rest = ih met.number s.0 (head_of bytes b are).1 met.occurs_there s.2 goal in
          let near = met.near in
          omega (arith, rest, near)

      go : IsFar bytes q → (i < n) ⊎ (n ≤ i) → depth_at ws n ≤ depth_at ws i + length (b ∷ bytes)
      go ih (inl m) = on ih m
      go ih (inr m) = let r = tree.rising n i m (slice_get_within ks i p at) in omega (arith, r)

  -- if all pending points were examined, no input leads to a goal
  pub nowhere : (bytes : List ℕ) (i : ℕ) (p q : PendingPoint) → length ks ≤ n → All (λ x. x < 256) bytes → slice_get ks i ≡ Some p → after next p bytes ≡ Some q →
      is_goal q ≡ true → ⊥
  nowhere [] i p q l are at way goal =
      let inside = slice_get_within ks i p at in
      let out : is_goal q ≡ false = subst (λ (s : PendingPoint). is_goal s ≡ false) (same_Some _ _ way) (none i p (omega arith) at) in
      let clash : true ≡ false = sym goal ∙ out in
      cc
  nowhere (b ∷ bytes) i p q l are at way goal =
      let inside = slice_get_within ks i p at in
      let s = step_of p b bytes q way in
      let met = closed i b p (omega arith) at (head_of bytes b are).0 s.0 s.1 in
      nowhere bytes met.number s.0 q l (head_of bytes b are).1 met.occurs_there s.2 goal

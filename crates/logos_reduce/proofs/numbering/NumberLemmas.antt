-- Numbering blocks by first visit.
use Rattle.std.proofs.Common.{◌≡◌, ℕ, zero, suc, ◌<◌, ◌≤◌, ◌+◌, ◌-◌, ◌++◌, ◌⊎◌, inl, inr, nat_eq, if◌then◌else◌, true, false, slice_index, slice_index_or, List, [], ◌∷◌, length, option_and_then, option_map, Option, Some, None, refl, sym, ◌∙◌, ap, subst, arith, length-append}
use Rattle.std.proofs.lemmas.Bool.{cases_lt}
use Rattle.std.proofs.lemmas.Bool.Decides.{nat_tests}
use Rattle.std.proofs.lemmas.Grind.{get_or_default_zero}
use Rattle.std.proofs.lemmas.List.{get_or_append_left, get_or_push}
use Rattle.logos_reduce.specs.Merge.{target_block, AreLeaders}
use Rattle.logos_reduce.specs.Table.{size, to}
use Rattle.logos_reduce.specs.Rows.{HasOnly, target_by, target_of}
use Rattle.logos_reduce.specs.declared.table.Table.{Table}
use Rattle.logos_reduce.proofs.tables.EdgeLemmas.{led_target}
use Rattle.logos_reduce.specs.Number.{ComesBefore, IsFirstInto, IsInTurn, AreUsed}
use Rattle.logos_reduce.specs.Order.{IsOrder, IsMet}
use Rattle.logos_reduce.specs.inside.Order.{Grows}
use Rattle.logos_reduce.proofs.orders.CountLemmas.{fewer}
use Rattle.logos_reduce.proofs.orders.OrderLemmas.{met_kept}

-- one symbol more
before_next : (r l i k : ℕ) → ComesBefore r l i (k + 1) → ComesBefore r l i k ⊎ ((r ≡ i) × (l ≡ k))
before_next r l i k (inl x) = inl (inl x)
before_next r l i k (inr x) = go (cases_lt l k)
  where
    go : (l < k) ⊎ (k ≤ l) → ComesBefore r l i k ⊎ ((r ≡ i) × (l ≡ k))
    go (inl m) = inl (inr (x.0, m))
    go (inr m) = inr (x.0, let n = x.1 in omega arith)

before_grows : (r l i k : ℕ) → ComesBefore r l i k → ComesBefore r l i (k + 1)
before_grows r l i k (inl x) = inl x
before_grows r l i k (inr x) = inr (x.0, let n = x.1 in omega arith)

module _ (edge : ℕ → ℕ → Option ℕ) (numbers states numbers' states' : List ℕ) (i k : ℕ) (slot : i < length states) (h : IsInTurn edge numbers states i k)
    (grows : Grows numbers numbers') (met : (b : ℕ) → edge (slice_index states i) k ≡ Some b → IsMet numbers' b) where
  old_same : states' ≡ states → IsInTurn edge numbers' states' i (k + 1)
  old_same e = record {
    met = λ r l b m c q. was r l b (rw e at m) (before_next r l i k c) (rw e at q);
    slot = h.slot;
    symbol = h.symbol;
    first = rw e (λ j p l. h.first j p l);
    passed = λ j p l. before_grows (h.slot j) (h.symbol j) i k (h.passed j p (rw e at l));
    rises = λ j g p l m. h.rises j g p l (rw e at m);
  }
    where
      was : (r l b : ℕ) → r < length states → ComesBefore r l i k ⊎ ((r ≡ i) × (l ≡ k)) → edge (slice_index states r) l ≡ Some b → IsMet numbers' b
      was r l b m (inl c) q = met_kept numbers numbers' grows b (h.met r l b m c q)
      was r l b m (inr c) q = met b (sym (ap (λ (x : ℕ). edge (slice_index states x) k) c.0) ∙ sym (ap (λ (x : ℕ). edge (slice_index states r) x) c.1) ∙ q)

  module _ (b : ℕ) (new : edge (slice_index states i) k ≡ Some b) (free : slice_index numbers b ≡ 0) (e : states' ≡ states ++ b ∷ []) where
    longer : length states' ≡ length states + 1
    longer = let n = ap length e in let m = length-append states (b ∷ []) in let o : length (b ∷ []) ≡ 1 = omega arith in omega arith

    front : (j : ℕ) → j < length states → slice_index states' j ≡ slice_index states j
    front j l = ap (λ (xs : List ℕ). slice_index xs j) e ∙ get_or_append_left states (b ∷ []) 0 j l

    back : slice_index states' (length states) ≡ b
    back = ap (λ (xs : List ℕ). slice_index xs (length states)) e ∙ get_or_push states b 0 (length states) refl

    new_slot : ℕ → ℕ
    new_slot j = if nat_eq j (length states) then i else h.slot j

    new_symbol : ℕ → ℕ
    new_symbol j = if nat_eq j (length states) then k else h.symbol j

    slot_old : (j : ℕ) → j < length states → new_slot j ≡ h.slot j
    unfolding new_slot
    slot_old j l = let t : nat_eq j (length states) ≡ false = grind (arith, nat_tests) in rw t refl

    slot_new : new_slot (length states) ≡ i
    unfolding new_slot
    slot_new = let t : nat_eq (length states) (length states) ≡ true = grind (arith, nat_tests) in rw t refl

    symbol_old : (j : ℕ) → j < length states → new_symbol j ≡ h.symbol j
    unfolding new_symbol
    symbol_old j l = let t : nat_eq j (length states) ≡ false = grind (arith, nat_tests) in rw t refl

    symbol_new : new_symbol (length states) ≡ k
    unfolding new_symbol
    symbol_new = let t : nat_eq (length states) (length states) ≡ true = grind (arith, nat_tests) in rw t refl

    -- an edge from an index that was there
    old_edge : (r l c : ℕ) → r < length states → edge (slice_index states' r) l ≡ Some c → edge (slice_index states r) l ≡ Some c
    old_edge r l c m q = ap (λ (x : ℕ). edge x l) (sym (front r m)) ∙ q

    first_old : (j : ℕ) → j < length states → (r l : ℕ) → IsFirstInto edge states j r l → IsFirstInto edge states' j r l
    first_old j m r l f = record {
      lower = f.lower;
      enters = let w = f.lower in ap (λ (x : ℕ). edge x l) (front r (omega arith)) ∙ f.enters ∙ ap Some (sym (front j m));
      none = λ s g c q. f.none s g c (old_edge s g (slice_index states j) (source s c) (q ∙ ap Some (front j m)));
    }
      where
        source : (s : ℕ) {g : ℕ} → ComesBefore s g r l → s < length states
        source s (inl x) = let w = f.lower in omega arith
        source s (inr x) = let w = f.lower in let z = x.0 in omega arith

    first_new : IsFirstInto edge states' (length states) i k
    first_new = record {
      lower = slot;
      enters = ap (λ (x : ℕ). edge x k) (front i slot) ∙ new ∙ ap Some (sym back);
      none = λ s g c q. let m = h.met s g b (source s c) c (old_edge s g b (source s c) (q ∙ ap Some back)) in omega arith;
    }
      where
        source : (s : ℕ) {g : ℕ} → ComesBefore s g i k → s < length states
        source s (inl x) = omega arith
        source s (inr x) = let z = x.0 in omega arith

    one_more : IsInTurn edge numbers' states' i (k + 1)
    one_more = record {
      met = λ r l c m p q. was r l c m (before_next r l i k p) q;
      slot = new_slot;
      symbol = new_symbol;
      first = λ j p l. first j p (cases_lt j (length states)) l;
      passed = λ j p l. passed j p (cases_lt j (length states)) l;
      rises = λ j g p l m. rises j g p l (cases_lt g (length states)) m;
    }
      where
        was : (r l c : ℕ) → r < length states' → ComesBefore r l i k ⊎ ((r ≡ i) × (l ≡ k)) → edge (slice_index states' r) l ≡ Some c → IsMet numbers' c
        was r l c m (inl (inl x)) q = met_kept numbers numbers' grows c (h.met r l c (omega arith) (inl x) (old_edge r l c (omega arith) q))
        was r l c m (inl (inr x)) q =
            let z = x.0 in
            met_kept numbers numbers' grows c (h.met r l c (omega arith) (inr x) (old_edge r l c (omega arith) q))
        was r l c m (inr x) q =
            let z = x.0 in
            let q' = old_edge r l c (omega arith) q in
            met c (sym (ap (λ (y : ℕ). edge (slice_index states y) k) x.0) ∙ sym (ap (λ (y : ℕ). edge (slice_index states r) y) x.1) ∙ q')

        first : (j : ℕ) → 0 < j → (j < length states) ⊎ (length states ≤ j) → j < length states' → IsFirstInto edge states' j (new_slot j) (new_symbol j)
        first j p (inl m) l = rw (slot_old j m, symbol_old j m) (first_old j m (h.slot j) (h.symbol j) (h.first j p m))
        first j p (inr m) l =
            let z = longer in
            let at : length states ≡ j = omega arith in
            subst (λ (j : ℕ). IsFirstInto edge states' j (new_slot j) (new_symbol j)) at (rw (slot_new, symbol_new) first_new)

        passed : (j : ℕ) → 0 < j → (j < length states) ⊎ (length states ≤ j) → j < length states' → ComesBefore (new_slot j) (new_symbol j) i (k + 1)
        passed j p (inl m) l = rw (slot_old j m, symbol_old j m) (before_grows (h.slot j) (h.symbol j) i k (h.passed j p m))
        passed j p (inr m) l =
            let z = longer in
            let at : length states ≡ j = omega arith in
            subst (λ (j : ℕ). ComesBefore (new_slot j) (new_symbol j) i (k + 1)) at (rw (slot_new, symbol_new) (inr (refl, omega arith)))

        rises : (j g : ℕ) → 0 < j → j < g → (g < length states) ⊎ (length states ≤ g) → g < length states' → ComesBefore (new_slot j) (new_symbol j) (new_slot g) (new_symbol g)
        rises j g p l (inl m) n =
            let a = h.rises j g p l m in
            let small : j < length states = omega arith in
            rw (slot_old j small, symbol_old j small, slot_old g m, symbol_old g m) a
        rises j g p l (inr m) n =
            let z = longer in
            let at : length states ≡ g = omega arith in
            let small : j < length states = omega arith in
            subst (λ (g : ℕ). ComesBefore (new_slot j) (new_symbol j) (new_slot g) (new_symbol g)) at
            (rw (slot_old j small, symbol_old j small, slot_new, symbol_new) (h.passed j p small))

  -- the next symbol
  pub turn_more : (states' ≡ states) ⊎ ((b : ℕ) × (edge (slice_index states i) k ≡ Some b) × (slice_index numbers b ≡ 0) × (states' ≡ states ++ b ∷ [])) → IsInTurn edge numbers' states' i (k + 1)
  turn_more (inl e) = old_same e
  turn_more (inr x) = one_more x.0 x.1 x.2 x.3

-- past symbols that lead where the first of them leads
pub turn_past : (edge : ℕ → ℕ → Option ℕ) (numbers states : List ℕ) (i k e : ℕ) → k < e →
    ((l : ℕ) → k ≤ l → l < e → edge (slice_index states i) l ≡ edge (slice_index states i) k) → IsInTurn edge numbers states i (k + 1) → IsInTurn edge numbers states i e
turn_past edge numbers states i k e more same h = record {
  met = λ r l b m c q. met r l b m c q;
  slot = h.slot;
  symbol = h.symbol;
  first = h.first;
  passed = λ j p l. up (h.slot j) (h.symbol j) (h.passed j p l);
  rises = h.rises;
}
  where
    met : (r l b : ℕ) → r < length states → ComesBefore r l i e → edge (slice_index states r) l ≡ Some b → IsMet numbers b
    met r l b m (inl x) q = h.met r l b m (inl x) q
    met r l b m (inr x) q = go (cases_lt l k)
      where
        go : (l < k) ⊎ (k ≤ l) → IsMet numbers b
        go (inl n) = h.met r l b m (inr (x.0, omega arith)) q
        go (inr n) =
            let first = ap (λ (r : ℕ). edge (slice_index states r) k) x.0 ∙ sym (same l n x.1) ∙ sym (ap (λ (r : ℕ). edge (slice_index states r) l) x.0) ∙ q in
            h.met r k b m (inr (x.0, omega arith)) first

    up : (r l : ℕ) → ComesBefore r l i (k + 1) → ComesBefore r l i e
    up r l (inl x) = inl x
    up r l (inr x) = inr (x.0, let n = x.1 in omega arith)

-- the targets of the symbols of a run
pub run_goes : (table : Table) (block : ℕ → ℕ) (s leader k e : ℕ) (row : List ℕ) → ((l : ℕ) → target_by row l ≡ to table s l) → s ≡ leader →
    HasOnly row k e (slice_index row k) → (l : ℕ) → k ≤ l → l < e → target_block table block leader l ≡ target_block table block leader k
run_goes table block s leader k e row goes at same l p m = ap (option_map block) (sym (here l) ∙ ap target_of (same l p m) ∙ here k)
  where
    here : (l : ℕ) → target_by row l ≡ to table leader l
    here l = goes l ∙ ap (λ (s : ℕ). to table s l) at

-- the next index
pub turn_next : (edge : ℕ → ℕ → Option ℕ) → ((b k c : ℕ) → edge b k ≡ Some c → k < 257) → (numbers states : List ℕ) (i : ℕ) → IsInTurn edge numbers states i 257 → IsInTurn edge numbers states (i + 1) 0
turn_next edge wide numbers states i h = record {
  met = λ r l b m c q. h.met r l b m (down r l c (wide (slice_index states r) l b q)) q;
  slot = h.slot;
  symbol = h.symbol;
  first = h.first;
  passed = λ j p l. up (h.slot j) (h.symbol j) (h.passed j p l);
  rises = h.rises;
}
  where
    down : (r l : ℕ) → ComesBefore r l (i + 1) 0 → l < 257 → ComesBefore r l i 257
    down r l (inl x) w = go (cases_lt r i)
      where
        go : (r < i) ⊎ (i ≤ r) → ComesBefore r l i 257
        go (inl y) = inl y
        go (inr y) = inr (omega arith, w)
    down r l (inr x) w = let z = x.1 in absurd (omega arith)

    up : (r l : ℕ) → ComesBefore r l i 257 → ComesBefore r l (i + 1) 0
    up r l (inl x) = inl (omega arith)
    up r l (inr x) = let z = x.0 in inl (omega arith)

-- before the first index
pub turn_first : (edge : ℕ → ℕ → Option ℕ) (numbers states : List ℕ) → length states ≤ 1 → IsInTurn edge numbers states 0 0
turn_first edge numbers states l = record {
  met = λ r k b m c q. absurd (none r k c);
  slot = λ j. 0;
  symbol = λ j. 0;
  first = λ j p m. absurd (omega arith);
  passed = λ j p m. absurd (omega arith);
  rises = λ j g p m n. absurd (omega arith);
}
  where
    none : (r k : ℕ) → ComesBefore r k 0 0 → ⊥
    none r k (inl x) = omega arith
    none r k (inr x) = let z = x.1 in omega arith

-- a block more that is used
pub used_more : (n : ℕ) (block : ℕ → ℕ) (states states' : List ℕ) → AreUsed n block states →
    (states' ≡ states) ⊎ ((s : ℕ) × (s < n) × (states' ≡ states ++ block s ∷ [])) → AreUsed n block states'
used_more n block states states' h (inl e) = rw e h
used_more n block states states' h (inr x) = λ i l. go i l (cases_lt i (length states))
  where
    go : (i : ℕ) → i < length states' → (i < length states) ⊎ (length states ≤ i) → (s : ℕ) × (s < n) × (block s ≡ slice_index states' i)
    go i l (inl m) =
        let u = h i m in
        (u.0, u.1, u.2 ∙ sym (get_or_append_left states (block x.0 ∷ []) 0 i m) ∙ ap (λ (xs : List ℕ). slice_index xs i) (sym x.2))
    go i l (inr m) =
        let size = ap length x.2 in
        let more = length-append states (block x.0 ∷ []) in
        let one : length (block x.0 ∷ []) ≡ 1 = omega arith in
        let at : i ≡ length states = omega arith in
        (x.0, x.1, sym (ap (λ (xs : List ℕ). slice_index xs i) x.2 ∙ ap (λ (j : ℕ). slice_index (states ++ block x.0 ∷ []) j) at ∙ get_or_push states (block x.0) 0 (length states) refl))

-- the leader of a block that is used
pub used_leader : (n : ℕ) (block leader : ℕ → ℕ) (states : List ℕ) → AreUsed n block states → AreLeaders n block leader →
    (i : ℕ) → i < length states → (leader (slice_index states i) < n) × (block (leader (slice_index states i)) ≡ slice_index states i)
used_leader n block leader states used leads i l =
    let u = used i l in
    subst (λ (b : ℕ). (leader b < n) × (block (leader b) ≡ b)) u.2 (leads u.0 u.1)

-- there are not more blocks than states
pub used_few : (n : ℕ) (block leader : ℕ → ℕ) (numbers states : List ℕ) → IsOrder numbers states → AreUsed n block states → AreLeaders n block leader → length states ≤ n
used_few n block leader numbers states order used leads =
    fewer (length states) n (λ i. leader (slice_index states i)) (λ i l. (used_leader n block leader states used leads i l).0)
    (λ i j l m e.
    let a = (used_leader n block leader states used leads i (omega arith)).1 in
    let b = (used_leader n block leader states used leads j m).1 in
    let same : slice_index states i ≡ slice_index states j = sym a ∙ ap block e ∙ b in
    let p = (order.placed i (omega arith)).1 in
    let q = (order.placed j m).1 in
    let r = ap (slice_index numbers) same in
    omega arith)

-- a leader that is read by two indices
pub leader_read : (states leaders : List ℕ) (i x y : ℕ) → x ≡ slice_index_or states i x → i < length states → y ≡ slice_index_or leaders x y → slice_index states i < length leaders →
    y ≡ slice_index leaders (slice_index states i)
leader_read states leaders i x y e l q m =
    let a : x ≡ slice_index states i = e ∙ get_or_default_zero states i x l in
    q ∙ get_or_default_zero leaders x y (omega arith) ∙ ap (slice_index leaders) a

-- the states that one target adds
module _ (table : Table) (block : ℕ → ℕ) (s k : ℕ) (numbers states states' : List ℕ) (target : Option ℕ) (goes : target ≡ target_block table block s k)
    (found : (states' ≡ states) ⊎ ((b : ℕ) × (target ≡ Some b) × (slice_index numbers b ≡ 0) × (states' ≡ states ++ b ∷ []))) where
  pub met_by : (states' ≡ states) ⊎ ((b : ℕ) × (target_block table block s k ≡ Some b) × (slice_index numbers b ≡ 0) × (states' ≡ states ++ b ∷ []))
  met_by = go found
    where
      go : (states' ≡ states) ⊎ ((b : ℕ) × (target ≡ Some b) × (slice_index numbers b ≡ 0) × (states' ≡ states ++ b ∷ [])) →
          (states' ≡ states) ⊎ ((b : ℕ) × (target_block table block s k ≡ Some b) × (slice_index numbers b ≡ 0) × (states' ≡ states ++ b ∷ []))
      go (inl e) = inl e
      go (inr x) = inr (x.0, sym goes ∙ x.1, x.2, x.3)

  pub used_by : (states' ≡ states) ⊎ ((t : ℕ) × (t < size table) × (states' ≡ states ++ block t ∷ []))
  used_by = go found
    where
      go : (states' ≡ states) ⊎ ((b : ℕ) × (target ≡ Some b) × (slice_index numbers b ≡ 0) × (states' ≡ states ++ b ∷ [])) →
          (states' ≡ states) ⊎ ((t : ℕ) × (t < size table) × (states' ≡ states ++ block t ∷ []))
      go (inl e) = inl e
      go (inr x) =
          let t = led_target table block s k x.0 (sym goes ∙ x.1) in
          inr (t.0, t.2, x.3 ∙ ap (λ (b : ℕ). states ++ b ∷ []) (sym t.3))

-- the block of a number
pub target_numbered : (numbers states : List ℕ) → IsOrder numbers states → (o : Option ℕ) (t : ℕ) → option_and_then (λ b. target_of (slice_index numbers b)) o ≡ Some t →
    (b : ℕ) × (o ≡ Some b) × (t < length states) × (slice_index states t ≡ b)
target_numbered numbers states h None t e = absurd (cc)
target_numbered numbers states h (Some b) t e = go (slice_index numbers b) refl e
  where
    go : (n : ℕ) → slice_index numbers b ≡ n → target_of n ≡ Some t → (c : ℕ) × (Some b ≡ Some c) × (t < length states) × (slice_index states t ≡ c)
    go zero q e = absurd (cc)
    go (suc n) q e =
        let same : n ≡ t = cc in
        let p = h.named b t (omega arith) in
        (b, refl, p.0, p.1)

-- numbers are not above the count of states
pub number_few : (numbers states : List ℕ) → IsOrder numbers states → (b : ℕ) → slice_index numbers b ≤ length states
number_few numbers states h b = go (cases_lt 0 (slice_index numbers b))
  where
    go : (0 < slice_index numbers b) ⊎ (slice_index numbers b ≤ 0) → slice_index numbers b ≤ length states
    go (inl m) = let l = (h.named b (slice_index numbers b - 1) (omega arith)).0 in omega arith
    go (inr m) = omega arith

pub not_met : (numbers : List ℕ) (b : ℕ) → (IsMet numbers b → ⊥) → slice_index numbers b ≡ 0
not_met numbers b clear = go (cases_lt 0 (slice_index numbers b))
  where
    go : (0 < slice_index numbers b) ⊎ (slice_index numbers b ≤ 0) → slice_index numbers b ≡ 0
    go (inl m) = absurd (clear m)
    go (inr m) = omega arith

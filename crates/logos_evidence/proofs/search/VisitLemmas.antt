-- One more pending point among those that were met.
use Rattle.std.proofs.Common.{◌≡◌, ℕ, ◌+◌, ◌<◌, ◌≤◌, ◌⊎◌, List, [], ◌∷◌, ◌++◌, Option, Some, length, slice_get, refl, sym, ap, ◌∙◌, subst, inl, inr, arith, length-append}
use Rattle.std.proofs.lemmas.Bool.{cases_lt}
use Rattle.std.proofs.lemmas.List.{get_or_append_left, get_or_push}
use Rattle.std.proofs.lemmas.Option.{slice_get_within}
use Rattle.logos_evidence.specs.search.inside.Visits.{no_visit, visit_at, depth_at, IsMet, Meets, known, fresh, Grows, IsReached, IsTree, IsWithin}
use Rattle.logos_evidence.specs.declared.search.visits.PendingPoint.{PendingPoint}
use Rattle.logos_evidence.specs.declared.search.visits.Visit.{Visit}
use Rattle.logos_evidence.proofs.search.ListLemmas.{got_front, got_last}

pub grows_self : (ks : List PendingPoint) (ws : List Visit) → Grows ks ws ks ws
grows_self ks ws = record { stays = λ i s e. e; depths = λ i l. refl; longer = omega arith }

pub grows_on : (ks : List PendingPoint) (ws : List Visit) (ms : List PendingPoint) (vs : List Visit) (ns : List PendingPoint) (us : List Visit) →
    Grows ks ws ms vs → Grows ms vs ns us → Grows ks ws ns us
grows_on ks ws ms vs ns us g h = record {
  stays = λ i s e. h.stays i s (g.stays i s e);
  depths = λ i l. h.depths i (omega (arith, g.longer)) ∙ g.depths i l;
  longer = omega (arith, g.longer, h.longer);
}

pub met_on : (ks : List PendingPoint) (ws : List Visit) (ms : List PendingPoint) (vs : List Visit) (to : PendingPoint) (d : ℕ) → Grows ks ws ms vs → IsMet ks ws to d → IsMet ms vs to d
met_on ks ws ms vs to d g m =
    let l = slice_get_within ks m.number to m.occurs_there in
    let e = g.depths m.number l in
    record { number = m.number; occurs_there = g.stays m.number to m.occurs_there; near = omega (arith, e, m.near) }

module _ (next : PendingPoint → ℕ → Option PendingPoint) (ks : List PendingPoint) (ws : List Visit) (to : PendingPoint) (w : Visit) (tree : IsTree next ks ws) where
  abbrev more_points : List PendingPoint
  more_points = ks ++ to ∷ []

  abbrev more_ways : List Visit
  more_ways = ws ++ w ∷ []

  old : (i : ℕ) → i < length ks → visit_at more_ways i ≡ visit_at ws i
  old i l = get_or_append_left ws (w ∷ []) no_visit i (omega (arith, tree.same))

  new : (i : ℕ) → i ≡ length ks → visit_at more_ways i ≡ w
  new i e = ap (visit_at more_ways) e ∙ get_or_push ws w no_visit (length ks) tree.same

  longer : length more_points ≡ length ks + 1
  longer = length-append ks (to ∷ [])

  pub grows_more : Grows ks ws more_points more_ways
  grows_more = record {
    stays = λ i s e. got_front ks (to ∷ []) i s e;
    depths = λ i l. ap (λ (v : Visit). v.depth) (old i l);
    longer = omega (arith, longer);
  }

  cases : (i : ℕ) → i < length more_points → (i < length ks) ⊎ (i ≡ length ks)
  cases i l = elim (cases_lt i (length ks)) [ inl m ↦ inl m | inr m ↦ inr (omega (arith, longer)) ]

  module _ (at : PendingPoint) (there : slice_get ks w.from ≡ Some at) (step : next at w.byte ≡ Some to) (is_byte : w.byte < 256)
      (depth : w.depth ≡ depth_at ws w.from + 1) (within : IsWithin next ks ws w.depth) where
    from_in : w.from < length ks
    from_in = slice_get_within ks w.from at there

    reached_old : (i : ℕ) → i < length ks → IsReached next ks ws i → IsReached next more_points more_ways i
    reached_old i l r =
        let e = old i l in
        let from_low = r.before in
        let f = old (visit_at ws i).from (omega (arith, from_low)) in
        record {
          before = subst (λ (v : Visit). v.from < i) (sym e) r.before;
          is_byte = subst (λ (v : Visit). v.byte < 256) (sym e) r.is_byte;
          from = r.from;
          occurs_before = subst (λ (v : Visit). slice_get more_points v.from ≡ Some r.from) (sym e) (got_front ks (to ∷ []) _ r.from r.occurs_before);
          to = r.to;
          occurs_there = got_front ks (to ∷ []) i r.to r.occurs_there;
          step = subst (λ (v : Visit). next r.from v.byte ≡ Some r.to) (sym e) r.step;
          depth = ap (λ (v : Visit). v.depth) e ∙ r.depth ∙ ap (λ (v : Visit). v.depth + 1) (sym f ∙ ap (λ (v : Visit). visit_at more_ways v.from) (sym e));
        }

    reached_new : (i : ℕ) → i ≡ length ks → IsReached next more_points more_ways i
    reached_new i l =
        let e = new i l in
        record {
          before = subst (λ (v : Visit). v.from < i) (sym e) (omega (arith, from_in));
          is_byte = subst (λ (v : Visit). v.byte < 256) (sym e) is_byte;
          from = at;
          occurs_before = subst (λ (v : Visit). slice_get more_points v.from ≡ Some at) (sym e) (got_front ks (to ∷ []) _ at there);
          to = to;
          occurs_there = subst (λ (n : ℕ). slice_get more_points n ≡ Some to) (sym l) (got_last ks to);
          step = subst (λ (v : Visit). next at v.byte ≡ Some to) (sym e) step;
          depth = ap (λ (v : Visit). v.depth) e ∙ depth ∙ ap (λ (v : Visit). v.depth + 1) (sym (old w.from from_in) ∙ ap (λ (v : Visit). visit_at more_ways v.from) (sym e));
        }

    depth_old : (i : ℕ) → i < length ks → depth_at more_ways i ≡ depth_at ws i
    depth_old i l = ap (λ (v : Visit). v.depth) (old i l)

    depth_new : (i : ℕ) → i ≡ length ks → depth_at more_ways i ≡ w.depth
    depth_new i l = ap (λ (v : Visit). v.depth) (new i l)

    low_more : (i : ℕ) → (i < length ks) ⊎ (i ≡ length ks) → depth_at more_ways i ≤ i
    low_more i (inl l) = let e = depth_old i l in let o = tree.low i l in omega (arith, e, o)
    low_more i (inr l) = let e = depth_new i l in let o = tree.low w.from from_in in omega (arith, e, o, depth, from_in)

    reached_more : (i : ℕ) → 0 < i → (i < length ks) ⊎ (i ≡ length ks) → IsReached next more_points more_ways i
    reached_more i p (inl l) = reached_old i l (tree.reached i p l)
    reached_more i p (inr l) = reached_new i l

    rising_more : (i j : ℕ) → i ≤ j → (i < length ks) ⊎ (i ≡ length ks) → (j < length ks) ⊎ (j ≡ length ks) → depth_at more_ways i ≤ depth_at more_ways j
    rising_more i j p (inl l) (inl m) = let e = depth_old i l in let f = depth_old j m in let o = tree.rising i j p m in omega (arith, e, f, o)
    rising_more i j p (inl l) (inr m) = let e = depth_old i l in let f = depth_new j m in let o = within i l in omega (arith, e, f, o)
    rising_more i j p (inr l) (inl m) = absurd (omega arith)
    rising_more i j p (inr l) (inr m) = let e = depth_new i l in let f = depth_new j m in omega (arith, e, f)

    tree_more : IsTree next more_points more_ways
    tree_more = record {
      same = length-append ws (w ∷ []) ∙ ap (λ n. n + 1) tree.same ∙ sym longer;
      low = λ i l. low_more i (cases i l);
      reached = λ i p l. reached_more i p (cases i l);
      rising = λ i j p l. rising_more i j p (cases i (omega arith)) (cases j l);
    }

    within_more : IsWithin next more_points more_ways w.depth
    within_more i l = go (cases i l)
      where
        go : (i < length ks) ⊎ (i ≡ length ks) → depth_at more_ways i ≤ w.depth
        go (inl m) = let e = depth_old i m in let o = within i m in omega (arith, e, o)
        go (inr m) = let e = depth_new i m in omega (arith, e)

    met_new : IsMet more_points more_ways to w.depth
    met_new = record { number = length ks; occurs_there = got_last ks to; near = let e = depth_new (length ks) refl in omega (arith, e) }

-- the points that a step adds
pub record Added (next : PendingPoint → ℕ → Option PendingPoint) (ks : List PendingPoint) (ws : List Visit) (to : PendingPoint) (depth : ℕ) (ms : List PendingPoint) (vs : List Visit) : Type 0 where
  pub tree : IsTree next ms vs
  pub within : IsWithin next ms vs depth
  pub grows : Grows ks ws ms vs
  pub met : IsMet ms vs to depth

pub added : (next : PendingPoint → ℕ → Option PendingPoint) (ks : List PendingPoint) (ws : List Visit) (to : PendingPoint) (w : Visit) → IsTree next ks ws →
    (at : PendingPoint) → slice_get ks w.from ≡ Some at → next at w.byte ≡ Some to → w.byte < 256 → w.depth ≡ depth_at ws w.from + 1 → IsWithin next ks ws w.depth →
    (ms : List PendingPoint) (vs : List Visit) → Meets ks ws to w ms vs → Added next ks ws to w.depth ms vs
added next ks ws to w tree at there step is_byte depth within ms vs (known n k e f) =
    subst (λ (xs : List PendingPoint). Added next ks ws to w.depth xs vs) (sym e) (subst (λ (xs : List Visit). Added next ks ws to w.depth ks xs) (sym f) (record {
      tree = tree;
      within = within;
      grows = grows_self ks ws;
      met = record { number = n; occurs_there = k; near = within n (slice_get_within ks n to k) };
    }))
added next ks ws to w tree at there step is_byte depth within ms vs (fresh e f) =
    subst (λ (xs : List PendingPoint). Added next ks ws to w.depth xs vs) (sym e) (subst (λ (xs : List Visit). Added next ks ws to w.depth (ks ++ to ∷ []) xs) (sym f) (record {
      tree = tree_more next ks ws to w tree at there step is_byte depth within;
      within = within_more next ks ws to w tree at there step is_byte depth within;
      grows = grows_more next ks ws to w tree;
      met = met_new next ks ws to w tree at there step is_byte depth within;
    }))

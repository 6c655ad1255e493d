-- An automaton while it is built.
use Rattle.std.proofs.Common.{◌≡◌, ℕ, ◌+◌, ◌<◌, ◌≤◌, ◌⊎◌, Bool, List, [], ◌∷◌, ◌++◌, length, length-append, slice_index, slice_index_or, refl, sym, ap, ◌∙◌, subst, ⊎_elim, arith}
use Rattle.std.proofs.lemmas.List.{get_or_append_left}
use Rattle.std.proofs.Math.Seq.{get_or-append_seam}
use Rattle.logos_automaton.specs.Building.{IsUnderway, HasMoreStates}
use Rattle.logos_positions.specs.Core.{Core}
use Rattle.logos_automaton.specs.Keys.{State, start_state, IsAt, Grows, AreRising, AreDistinct, AreReached, IsReached, at_start, Extends, EndsIn, AreRows, IsRow, IsBuilt}
use Rattle.logos_automaton.specs.Targets.{AreByteRows, LeadWithin, EndWithin}
use Rattle.logos_automaton.specs.declared.key.Key.{Key}
use Rattle.logos_automaton.proofs.runs.DfaLemmas.{at_within}
use Rattle.logos_automaton.proofs.keys.TargetLemmas.{leads_grown, ends_grown, extends_both}

-- a list without states
none_at : (ks : List Key) (i : ℕ) (s : State) → ks ≡ [] → IsAt ks i s → ⊥
none_at ks i s e at = let l = at_within ks i s at in let n = ap length e in omega (arith, l, n)

module _ (ts : List Core) (looks : Bool) where
  -- the start alone
  pub start_underway : (old new : List Key) (i : ℕ) → old ≡ [] →
      (AreRising old → AreRising new) → (AreDistinct old → AreDistinct new) → (AreReached ts looks old → IsReached ts looks start_state → AreReached ts looks new) →
      length new ≤ length old + 1 → IsAt new i start_state → IsUnderway ts looks new [] []
  start_underway old new i none rising distinct reached few at =
      let l = at_within new i start_state at in
      let n = ap length none in
      let first : i ≡ 0 = omega (arith, l, n, few) in
      record {
        start_is = subst (λ k. IsAt new k start_state) first at;
        rising = rising (record { rising = λ j s h. absurd (none_at old j s none h) });
        distinct = distinct (record { distinct = λ j k s h g. absurd (none_at old j s none h) });
        reached = reached (record { reached = λ j s h. absurd (none_at old j s none h) }) at_start;
        few = omega (arith, n, few);
        within = omega arith;
        ends_count = refl;
        rows_are = record {
          wide = λ j lt. absurd (omega (arith, lt));
          rows_are = λ j lt. absurd (omega (arith, lt));
          ends_are = λ j lt. absurd (omega (arith, lt));
        };
      }

  below_or_same : (a b : ℕ) → a < b + 1 → (a < b) ⊎ (a ≡ b)
  below_or_same a b lt = grind arith

  -- one more row
  rows_more : (a b : List Key) (rows : List (List ℕ)) (ends : List ℕ) (row : List ℕ) (end : ℕ) → Grows a b → length ends ≡ length rows →
      AreRows ts looks a rows ends (length rows) → length row ≡ 256 → IsRow ts looks b (length rows) row 256 → EndsIn ts b (length rows) end →
      AreRows ts looks b (rows ++ row ∷ []) (ends ++ end ∷ []) (length rows + 1)
  rows_more a b rows ends row end grows count all wide here last = record {
    wide = λ i lt. ⊎_elim
        (λ (l : i < length rows). subst (λ r. length r ≡ 256) (sym (old_row i l)) (all.wide i l))
        (λ e. subst (λ r. length r ≡ 256) (sym (new_row i e)) wide)
        (below_or_same i (length rows) lt);
    rows_are = λ i lt. ⊎_elim
        (λ (l : i < length rows). subst (λ r. IsRow ts looks b i r 256) (sym (old_row i l)) (λ x m. leads_grown ts looks a b i x _ grows (all.rows_are i l x m)))
        (λ e. subst (λ r. IsRow ts looks b i r 256) (sym (new_row i e)) (subst (λ k. IsRow ts looks b k row 256) (sym e) here))
        (below_or_same i (length rows) lt);
    ends_are = λ i lt. ⊎_elim
        (λ (l : i < length rows). subst (EndsIn ts b i) (sym (get_or_append_left ends (end ∷ []) 0 i (omega (arith, l, count)))) (ends_grown ts looks a b i _ grows (all.ends_are i l)))
        (λ e. subst (EndsIn ts b i) (sym (ap (λ k. slice_index (ends ++ end ∷ []) k) (e ∙ sym count) ∙ get_or-append_seam ends end [] 0)) (subst (λ k. EndsIn ts b k end) (sym e) last))
        (below_or_same i (length rows) lt);
  }
    where
      old_row : (i : ℕ) → i < length rows → slice_index_or (rows ++ row ∷ []) i [] ≡ slice_index_or rows i []
      old_row i l = get_or_append_left rows (row ∷ []) [] i l

      new_row : (i : ℕ) → i ≡ length rows → slice_index_or (rows ++ row ∷ []) i [] ≡ row
      new_row i e = ap (λ k. slice_index_or (rows ++ row ∷ []) k []) e ∙ get_or-append_seam rows row [] []

  -- the states after one more turn
  pub next_underway : (a b c : List Key) (rows : List (List ℕ)) (ends : List ℕ) (row : List ℕ) (end m n : ℕ) → IsUnderway ts looks a rows ends →
      Extends ts looks a b m → Extends ts looks b c n → length c ≤ 65536 → length rows < length a →
      length row ≡ 256 → IsRow ts looks b (length rows) row 256 → EndsIn ts c (length rows) end →
      IsUnderway ts looks c (rows ++ row ∷ []) (ends ++ end ∷ [])
  next_underway a b c rows ends row end m n u f g few left wide here last =
      let both = extends_both ts looks a b c m n f g in
      let size : length (rows ++ row ∷ []) ≡ length rows + 1 = length-append rows (row ∷ []) in
      let size_ends : length (ends ++ end ∷ []) ≡ length ends + 1 = length-append ends (end ∷ []) in
      record {
        start_is = both.grows.keeps 0 start_state u.start_is;
        rising = both.rising u.rising;
        distinct = both.distinct u.distinct;
        reached = both.reached u.reached;
        few = few;
        within = omega (arith, size, left, both.longer);
        ends_count = size_ends ∙ ap (λ k. k + 1) u.ends_count ∙ sym size;
        rows_are = subst (AreRows ts looks c (rows ++ row ∷ []) (ends ++ end ∷ [])) (sym size)
            (rows_more a c rows ends row end both.grows u.ends_count u.rows_are wide (λ x lt. leads_grown ts looks b c (length rows) x _ g.grows (here x lt)) last);
      }

  -- too many states
  pub too_many : (a b c : List Key) (rows : List (List ℕ)) (ends : List ℕ) (m n : ℕ) → IsUnderway ts looks a rows ends →
      Extends ts looks a b m → Extends ts looks b c n → 65536 < length c → HasMoreStates ts looks 65536
  too_many a b c rows ends m n u f g many =
      let both = extends_both ts looks a b c m n f g in
      record { keys = c; distinct = both.distinct u.distinct; reached = both.reached u.reached; many = many }

  -- the whole automaton
  pub whole_built : (ks : List Key) (rows : List (List ℕ)) (ends : List ℕ) → IsUnderway ts looks ks rows ends → length ks ≤ length rows → IsBuilt ts looks 0 ks rows ends
  whole_built ks rows ends u all =
      let e : length rows ≡ length ks = omega (arith, all, u.within) in
      record {
        start_is = u.start_is;
        rows_count = e;
        ends_count = u.ends_count ∙ e;
        rows_are = subst (AreRows ts looks ks rows ends) e u.rows_are;
      }

  -- its targets are its states
  module _ (ks : List Key) (rows : List (List ℕ)) (ends : List ℕ) (u : IsUnderway ts looks ks rows ends) where
    pub start_there : 0 < length ks
    start_there = at_within ks 0 start_state u.start_is

    pub rows_wide : AreByteRows rows
    rows_wide i lt = u.rows_are.wide i lt

    pub rows_within : LeadWithin rows (length ks)
    rows_within i x lt byte = let to = u.rows_are.rows_are i lt x byte in at_within ks _ to.to to.to_is

    pub ends_within : EndWithin ends (length ks)
    ends_within i lt = let to = u.rows_are.ends_are i (omega (arith, lt, u.ends_count)) in at_within ks _ to.to to.to_is

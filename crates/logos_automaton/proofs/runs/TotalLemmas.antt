-- The automaton is total: each state has a target by each byte and by the end, and is reached.
use Rattle.std.proofs.Common.{◌≡◌, ℕ, zero, suc, ◌<◌, ◌≤◌, ◌⊎◌, Bool, false, List, [], ◌∷◌, ◌++◌, length, Option, Some, None, option_and_then, slice_get, slice_index_or, refl, sym, ap, ◌∙◌, subst, inl, inr, arith}
use lib.ListN.{length-map}
use Rattle.std.proofs.lemmas.Bool.{cases_lt}
use Rattle.std.proofs.lemmas.Option.{same_Some, slice_get-get_or, slice_get_past}
use Rattle.logos_hir.specs.Text.{IsBytes}
use Rattle.logos_positions.specs.Core.{Core}
use Rattle.logos_automaton.specs.Keys.{State, start_state, dead_state, IsAt, AreDistinct, AreReached, IsReached, at_start, by_byte, by_end, IsNext, IsLast, is_start, next_kind, IsBuilt, automaton_of}
use Rattle.logos_automaton.specs.Automaton.{Automaton, dfa_next, dfa_after, dfa_at_end, IsTotal}
use Rattle.logos_automaton.specs.declared.key.Key.{Key}
use Rattle.logos_automaton.proofs.runs.DfaLemmas.{at_within, after_more, next_is, end_is, matches_at}
use Rattle.logos_automaton.proofs.keys.LimitLemmas.{same_rising, same_state_as, dead_by_byte, dead_by_end, no_bytes, one_byte_more, state_at}
use Rattle.logos_positions.proofs.steps.StepLemmas.{iff_trans, iff_sym}

-- a byte leads to one state
pub next_same : (ts : List Core) (looks : Bool) (s : State) (x : ℕ) (n m : State) → IsNext ts looks s x n → IsNext ts looks s x m → n ≡ m
next_same ts looks s x n m f g =
    let e : n.positions ≡ m.positions = same_rising n.positions m.positions f.positions.set.rising g.positions.set.rising (λ q. iff_trans (f.positions.has q) (iff_sym (g.positions.has q))) in
    same_state_as n m e (f.kind ∙ ap (λ xs. next_kind looks xs x) e ∙ sym g.kind)
    (same_rising n.matches m.matches f.matches.set.rising g.matches.set.rising (λ k. iff_trans (f.matches.has k) (iff_sym (g.matches.has k))))

-- and so does the end
pub last_same : (ts : List Core) (s n m : State) → IsLast ts s n → IsLast ts s m → n ≡ m
last_same ts s n m f g =
    same_state_as n m (f.positions ∙ sym g.positions) (f.kind ∙ sym g.kind)
    (same_rising n.matches m.matches f.matches.set.rising g.matches.set.rising (λ k. iff_trans (f.matches.has k) (iff_sym (g.matches.has k))))

got_within : (xs : List ℕ) (i x : ℕ) → slice_get xs i ≡ Some x → i < length xs
got_within [] i x e = cc
got_within (y ∷ xs) zero x e = omega arith
got_within (y ∷ xs) (suc i) x e = let r = got_within xs i x e in omega (arith, r)

no_cell : (o : Option (List ℕ)) (b : ℕ) → ((row : List ℕ) → o ≡ Some row → length row ≤ b) → option_and_then (λ row. slice_get row b) o ≡ None
no_cell None b h = refl
no_cell (Some row) b h = slice_get_past row b (h row refl)

module _ (ts : List Core) (looks : Bool) (ks : List Key) (rows : List (List ℕ)) (ends : List ℕ) (built : IsBuilt ts looks 0 ks rows ends) (distinct : AreDistinct ks) (reached : AreReached ts looks ks)
    (at_once_dead : (next : State) → IsLast ts start_state next → next ≡ dead_state) where
  abbrev dfa : Automaton
  dfa = automaton_of 0 ks rows ends

  -- the dead state
  dead_is : (d : ℕ) × (slice_get ends 0 ≡ Some d) × IsAt ks d dead_state
  dead_is =
      let e = end_is ts looks 0 ks rows ends built 0 start_state built.start_is in
      (e.0, e.2, subst (IsAt ks e.0) (at_once_dead e.1 e.4) e.3)

  -- the state comes after some bytes, or after some bytes and the end; then nothing can be read
  record ComesAfter (s : State) : Type 0 where
    bytes : List ℕ
    are_bytes : IsBytes bytes
    number : ℕ
    there : IsAt ks number s
    way : (dfa_after dfa (Some 0) bytes ≡ Some number) ⊎ ((dfa_at_end dfa bytes ≡ Some number) × (s.positions ≡ []) × (is_start s.kind ≡ false))

  dead_comes_after : ComesAfter dead_state
  dead_comes_after = record { bytes = []; are_bytes = no_bytes; number = dead_is.0; there = dead_is.2; way = inr (dead_is.1, refl, refl) }

  comes_after : (s : State) → IsReached ts looks s → ComesAfter s
  comes_after _ at_start = record { bytes = []; are_bytes = no_bytes; number = 0; there = built.start_is; way = inl refl }
  comes_after _ (by_byte s next x lt h step) = go (comes_after s h)
    where
      go : ComesAfter s → ComesAfter next
      go b = by_way b.way
        where
          by_way : (dfa_after dfa (Some 0) b.bytes ≡ Some b.number) ⊎ ((dfa_at_end dfa b.bytes ≡ Some b.number) × (s.positions ≡ []) × (is_start s.kind ≡ false)) → ComesAfter next
          by_way (inl e) =
              let n = next_is ts looks 0 ks rows ends built b.number s x b.there lt in
              let same = next_same ts looks s x n.1 next n.4 step in
              record {
                bytes = b.bytes ++ x ∷ [];
                are_bytes = one_byte_more b.bytes x lt b.are_bytes;
                number = n.0;
                there = subst (IsAt ks n.0) same n.3;
                way = inl (after_more dfa (Some 0) b.bytes (x ∷ []) ∙ ap (λ o. dfa_next dfa o x) e ∙ n.2);
              }
          by_way (inr (e, none, later)) = subst ComesAfter (sym (dead_by_byte ts looks s none later x next step)) dead_comes_after
  comes_after _ (by_end s next h last) = go (comes_after s h)
    where
      go : ComesAfter s → ComesAfter next
      go b = by_way b.way
        where
          by_way : (dfa_after dfa (Some 0) b.bytes ≡ Some b.number) ⊎ ((dfa_at_end dfa b.bytes ≡ Some b.number) × (s.positions ≡ []) × (is_start s.kind ≡ false)) → ComesAfter next
          by_way (inl e) =
              let n = end_is ts looks 0 ks rows ends built b.number s b.there in
              let same = last_same ts s n.1 next n.4 last in
              record {
                bytes = b.bytes;
                are_bytes = b.are_bytes;
                number = n.0;
                there = subst (IsAt ks n.0) same n.3;
                way = inr (ap (option_and_then (slice_get ends)) e ∙ n.2, last.positions, ap is_start last.kind);
              }
          by_way (inr (e, none, later)) = subst ComesAfter (sym (dead_by_end ts looks s none later next last)) dead_comes_after

  count : length dfa.matches ≡ length ks
  count = length-map ks (λ k. k.matches.items)

  state_of_number : (s : ℕ) → s < length dfa.matches → (st : State) × IsAt ks s st
  state_of_number s lt = state_at ks s (omega (arith, lt, count))

  -- after the end comes the dead state
  dead_after : (t : ℕ) (s : State) (b : ℕ) → IsAt ks t s → s.positions ≡ [] → is_start s.kind ≡ false → b < 256 → dfa_next dfa (Some t) b ≡ Some dead_is.0
  dead_after t s b at none later lt =
      let n = next_is ts looks 0 ks rows ends built t s b at lt in
      let same = dead_by_byte ts looks s none later b n.1 n.4 in
      n.2 ∙ ap Some (distinct.distinct n.0 dead_is.0 dead_state (subst (IsAt ks n.0) same n.3) dead_is.2)

  dead_after_end : (t : ℕ) (s : State) → IsAt ks t s → s.positions ≡ [] → is_start s.kind ≡ false → slice_get ends t ≡ Some dead_is.0
  dead_after_end t s at none later =
      let n = end_is ts looks 0 ks rows ends built t s at in
      let same = dead_by_end ts looks s none later n.1 n.4 in
      n.2 ∙ ap Some (distinct.distinct n.0 dead_is.0 dead_state (subst (IsAt ks n.0) same n.3) dead_is.2)

  -- the target of the end
  ended : (s t : ℕ) → slice_get ends s ≡ Some t → (n : State) × IsAt ks t n × (n.positions ≡ []) × (is_start n.kind ≡ false)
  ended s t e =
      let l = got_within ends s t e in
      let st = state_at ks s (omega (arith, l, built.ends_count)) in
      let n = end_is ts looks 0 ks rows ends built s st.0 st.1 in
      let one : n.0 ≡ t = same_Some _ _ (sym n.2 ∙ e) in
      (n.1, subst (λ k. IsAt ks k n.1) one n.3, n.4.positions, ap is_start n.4.kind)

  row_wide : (s : ℕ) (row : List ℕ) → slice_get rows s ≡ Some row → length row ≡ 256
  row_wide s row e = go (cases_lt s (length rows))
    where
      go : (s < length rows) ⊎ (length rows ≤ s) → length row ≡ 256
      go (inl lt) =
          let is : slice_get rows s ≡ Some (slice_index_or rows s []) = slice_get-get_or rows s [] lt in
          subst (λ r. length r ≡ 256) (same_Some _ _ (sym is ∙ e)) (built.rows_are.wide s (omega (arith, lt, built.rows_count)))
      go (inr le) = let past = slice_get_past rows s le in cc

  pub is_total : IsTotal dfa
  is_total = record {
    start_lists = matches_at ts looks 0 ks rows ends built 0 start_state built.start_is;
    rows = built.rows_count ∙ sym count;
    ends = built.ends_count ∙ sym count;
    next = λ s b lt byte.
        let st = state_of_number s lt in
        let n = next_is ts looks 0 ks rows ends built s st.0 b st.1 byte in
        let l = at_within ks n.0 n.1 n.3 in
        (n.0, n.2, omega (arith, l, count));
    no_next = λ s b le. no_cell (slice_get rows s) b (λ row e. let w = row_wide s row e in omega (arith, w, le));
    at_end = λ s lt.
        let st = state_of_number s lt in
        let n = end_is ts looks 0 ks rows ends built s st.0 st.1 in
        let l = at_within ks n.0 n.1 n.3 in
        (n.0, n.2, omega (arith, l, count));
    reached = λ s lt.
        let st = state_of_number s lt in
        found s st.0 st.1 (comes_after st.0 (reached.reached s st.0 st.1));
    dead = dead_is.0;
    dead_lists = matches_at ts looks 0 ks rows ends built dead_is.0 dead_state dead_is.2;
    dead_next = λ b lt. dead_after dead_is.0 dead_state b dead_is.2 refl refl lt;
    dead_end = dead_after_end dead_is.0 dead_state dead_is.2 refl refl;
    after_end = λ s t b e lt. let n = ended s t e in dead_after t n.0 b n.1 n.2 n.3 lt;
    end_after_end = λ s t e. let n = ended s t e in dead_after_end t n.0 n.1 n.2 n.3;
  }
    where
      found : (s : ℕ) (st : State) → IsAt ks s st → ComesAfter st → (bytes : List ℕ) × IsBytes bytes × ((dfa_after dfa (Some dfa.start) bytes ≡ Some s) ⊎ (dfa_at_end dfa bytes ≡ Some s))
      found s st at b = (b.bytes, b.are_bytes, by_way b.way)
        where
          one : Some b.number ≡ Some s
          one = ap Some (distinct.distinct b.number s st b.there at)

          by_way : (dfa_after dfa (Some 0) b.bytes ≡ Some b.number) ⊎ ((dfa_at_end dfa b.bytes ≡ Some b.number) × (st.positions ≡ []) × (is_start st.kind ≡ false)) →
              (dfa_after dfa (Some dfa.start) b.bytes ≡ Some s) ⊎ (dfa_at_end dfa b.bytes ≡ Some s)
          by_way (inl e) = inl (e ∙ one)
          by_way (inr h) = inr (h.0 ∙ one)

-- The states that lead to a state.
use Rattle.std.proofs.Common.{◌≡◌, ℕ, ◌<◌, ◌≤◌, ◌⊎◌, inl, inr, true, List, [], ◌∷◌, ◌++◌, Vec, Global, length, map, get_or, slice_get, Contains, Some, None, option_and_then, sym, ◌∙◌, ap, subst, arith}
use Rattle.std.proofs.lemmas.Bool.{cases_lt}
use Rattle.std.proofs.lemmas.List.{get_or-map, length-map}
use Rattle.std.proofs.lemmas.Option.{slice_get-get_or, slice_get_past, slice_get_within, get_or_from_slice_get}
use Rattle.logos_reduce.specs.Lists.{has, has_in, Rises, AreRising, ArePredecessors}
use Rattle.logos_reduce.specs.Table.{size, to}
use Rattle.logos_reduce.specs.declared.table.Table.{Table}
use Rattle.logos_reduce.proofs.listings.ListLemmas.{has-got, has_in-get, has_index}
use Rattle.logos_reduce.proofs.tables.EdgeLemmas.{edge_within}
use Rattle.logos_graph.specs.Backward.{LeadsTo, AreBackward, HaveBackward}
use Rattle.logos_graph.specs.FinishedGraph.{edge_leads}
use Rattle.logos_graph.specs.Graph.{GraphState, next_by, next_at_end}
use Rattle.logos_graph.specs.GraphView.{graph_state_of, state_number}
use Rattle.logos_graph.specs.ReduceShown.{Shows}
use Rattle.logos_graph.specs.inside.States.{numbers_of, HaveNumbers}
use Rattle.logos_graph.specs.declared.graph.StateData.{StateData}
use Rattle.logos_graph.proofs.StateLemmas.{got_pushed, there}

-- no state has no list
pub none_backward : HaveBackward []
none_backward = record { each = λ s state e. absurd (cc) }

-- no states have the numbers of any lists
pub none_numbered : (lists : List (Vec ℕ Global)) → HaveNumbers lists []
none_numbered lists = record { each = λ s state e. absurd (cc) }

-- the numbers of a list
pub numbered_at : (lists : List (Vec ℕ Global)) (s : ℕ) (u : Vec ℕ Global) (numbers : List ℕ) → s < length lists → u ≡ get_or lists s u → numbers ≡ u.items → numbers ≡ get_or (numbers_of lists) s []
numbered_at lists s u numbers l at is = is ∙ ap (λ (v : Vec ℕ Global). v.items) at ∙ sym (get_or-map (λ (v : Vec ℕ Global). v.items) lists s u [] l)

-- one more state, with the numbers of its list
pub more_numbered : (lists : List (Vec ℕ Global)) (states : List StateData) (state : StateData) (n : ℕ) → length states ≡ n → map state_number state.backward.items ≡ get_or (numbers_of lists) n [] →
    HaveNumbers lists states → HaveNumbers lists (states ++ state ∷ [])
more_numbered lists states state n len is have = record { each = λ s found e. go s found (got_pushed states state found s e) }
  where
    go : (s : ℕ) (found : StateData) → (slice_get states s ≡ Some found) ⊎ ((s ≡ length states) × (state ≡ found)) → map state_number found.backward.items ≡ get_or (numbers_of lists) s []
    go s found (inl p) = have.each s found p
    go s found (inr p) =
        let e : n ≡ s = let q = p.0 in omega arith in
        subst (λ (x : StateData). map state_number x.backward.items ≡ get_or (numbers_of lists) s []) p.1
        (subst (λ m. map state_number state.backward.items ≡ get_or (numbers_of lists) m []) e is)

module _ (table : Table) (graph : List GraphState) (shows : Shows table graph) (lists : List (Vec ℕ Global)) (count : length lists ≡ size table)
    (are : ArePredecessors (size table) 257 (to table) lists) (rise : AreRising (size table) lists) where
  -- a byte leads from states of the graph alone
  byte_from : (r b s : ℕ) → next_by graph r b ≡ Some s → r < size table
  byte_from r b s e = go (cases_lt r (size table))
    where
      go : (r < size table) ⊎ (size table ≤ r) → r < size table
      go (inl l) = l
      go (inr l) =
          let past = slice_get_past graph r (let n = shows.states in omega (arith, n, l)) in
          let none : next_by graph r b ≡ None = ap (option_and_then (λ (state : GraphState). edge_leads state.normal b)) past in
          absurd (cc)

  end_from : (r s : ℕ) → next_at_end graph r ≡ Some s → r < size table
  end_from r s e = go (cases_lt r (size table))
    where
      go : (r < size table) ⊎ (size table ≤ r) → r < size table
      go (inl l) = l
      go (inr l) =
          let past = slice_get_past graph r (let n = shows.states in omega (arith, n, l)) in
          let none : next_at_end graph r ≡ None = ap (option_and_then (λ (state : GraphState). state.eoi)) past in
          absurd (cc)

  module _ (s : ℕ) (within : s < size table) (u : Vec ℕ Global) (at : u ≡ get_or lists s u) where
    here : (r : ℕ) → has_in lists s r ≡ has u.items r
    here r = has_in-get lists s u r (omega (arith, within, count)) at

    to_leads : (r : ℕ) → Contains u.items r → LeadsTo graph r s
    to_leads r (k, l, e) =
        let got : slice_get u.items k ≡ Some r = slice_get-get_or u.items k r l ∙ ap Some e in
        let p = are.only s r (here r ∙ has-got u.items k r got) in
        let w = (edge_within table r p.0 s p.2).0 in
        let last = p.1 in
        go p.0 w p.2 (grind (arith, last))
      where
        go : (j : ℕ) → r < size table → to table r j ≡ Some s → (j < 256) ⊎ (j ≡ 256) → LeadsTo graph r s
        go j w q (inl l) = inl (j, l, shows.next r j w l ∙ q)
        go j w q (inr l) = inr (shows.ends r w ∙ subst (λ i. to table r i ≡ Some s) l q)

    contains : (r : ℕ) → has_in lists s r ≡ true → Contains u.items r
    contains r h =
        let p = has_index u.items r (sym (here r) ∙ h) in
        (p.0, p.1, get_or_from_slice_get u.items p.0 r r (slice_get-get_or u.items p.0 0 p.1 ∙ ap Some p.2))

    from_leads : (r : ℕ) → LeadsTo graph r s → Contains u.items r
    from_leads r (inl (b, lt, e)) =
        let w = byte_from r b s e in
        contains r (are.all r b s w (omega (arith, lt)) (sym (shows.next r b w lt) ∙ e))
    from_leads r (inr e) =
        let w = end_from r s e in
        contains r (are.all r 256 s w (omega arith) (sym (shows.ends r w) ∙ e))

    backward_here : AreBackward graph s u.items
    backward_here = record {
      ascending =
          let l : s < length lists = omega (arith, within, count) in
          (subst (λ (v : Vec ℕ Global). Rises (size table) v.items) (sym at) (rise.each s u l)).ascending;
      exactly = λ r. (to_leads r, from_leads r);
    }

  backward_at : (s : ℕ) (numbers : List ℕ) → s < size table → numbers ≡ get_or (numbers_of lists) s [] → AreBackward graph s numbers
  backward_at s numbers within is =
      let l : s < length lists = omega (arith, within, count) in
      let p = there lists s l in
      let at : p.0 ≡ get_or lists s p.0 = sym (get_or_from_slice_get lists s p.0 p.0 p.1) in
      let same : p.0.items ≡ numbers =
      ap (λ (v : Vec ℕ Global). v.items) at ∙ sym (get_or-map (λ (v : Vec ℕ Global). v.items) lists s p.0 [] l) ∙ sym is
      in
      subst (AreBackward graph s) same (backward_here s within p.0 at)

-- states that have the numbers of the lists have those that lead to them
pub numbered_backward : (table : Table) (states : List StateData) → Shows table (map graph_state_of states) → (lists : List (Vec ℕ Global)) → length lists ≡ size table →
    ArePredecessors (size table) 257 (to table) lists → AreRising (size table) lists → HaveNumbers lists states → HaveBackward states
numbered_backward table states shows lists count are rise have = record {
  each = λ s state e.
      let l = slice_get_within states s state e in
      let n = length-map states graph_state_of in
      let m = shows.states in
      backward_at table (map graph_state_of states) shows lists count are rise s (map state_number state.backward.items) (omega (arith, l, n, m)) (have.each s state e);
}

-- Properties of a graph that represents the reduced table of an automaton, besides its results.
use Rattle.std.proofs.Common.{◌≡◌, ◌≢◌, ◌↔◌, ℕ, zero, suc, ◌<◌, ◌≤◌, ◌⊎◌, inl, inr, Bool, true, false, nat_eq, slice_get, List, [], ◌∷◌, length, Option, Some, None, option_map, option_and_then, IfSome, IsSomeAnd, refl, sym, ◌∙◌, ap, subst, arith}
use Rattle.std.proofs.lemmas.Bool.{cases_lt}
use Rattle.std.proofs.lemmas.Bool.Decides.{eqb_tells}
use Rattle.std.proofs.lemmas.List.Elements.{All-cons, All-nil}
use Rattle.std.specs.List.{find}
use Rattle.logos_hir.specs.Text.{IsBytes}
use Rattle.logos_graph.specs.FinishedGraph.{IsLate, IsUnmarked, NamesLeaves, IsFit}
use Rattle.logos_graph.specs.Graph.{GraphState, next_by, next_at_end, walk, type_after}
use Rattle.logos_hir.specs.ByteRanges.{is_in}
use Rattle.logos_graph.specs.Least.{IsLeast, IsEvidence}
use Rattle.logos_automaton.specs.Munch.{Rule}
use Rattle.logos_graph.specs.ReduceShown.{Shows}
use Rattle.logos_graph.specs.Reduced as reduced
use Rattle.logos_automaton.specs.Faults.{AllStart}
use Rattle.logos_graph.specs.inside.Walk.{MarksOneByteLate, edges_of}
use Rattle.logos_graph.proofs.Finished as fin
use Rattle.logos_graph.proofs.LeastLemmas.{type_here, evidence}
use Rattle.logos_graph.proofs.Longest.{no_empty_match, late_root}
use Rattle.logos_graph.proofs.Maps.{IsMap, map_leads}
use Rattle.logos_graph.proofs.Raw.{FirstOrNone}
use Rattle.logos_graph.proofs.ReductionLemmas as red
use Rattle.logos_graph.proofs.Steps.{first_byte, other_bytes}
use Rattle.logos_graph.proofs.Useful.{leads_to}
use Rattle.logos_graph.proofs.Whole.{all_accept_settled, same_type}
use Rattle.logos_reduce.specs.Edges.{StateType, IsMarked, Edges, reach}
use Rattle.logos_reduce.specs.Prune.{IsOfUse}
use Rattle.logos_reduce.specs.Raw.{IsRaw}
use Rattle.logos_reduce.specs.Reduction as table
use Rattle.logos_reduce.specs.Settle.{AllAccepted, IsNeededOrSpare}
use Rattle.logos_reduce.specs.Table.{size, to, mark, type_of, edges}
use Rattle.logos_reduce.specs.History.{YieldsEvidence}
use Rattle.logos_reduce.specs.declared.reduction.Reduction.{Reduction}
use Rattle.logos_reduce.specs.declared.table.Table.{Table}
use Rattle.logos_reduce.proofs.settling.LeadLemmas.{none_is_none, kept_accept}
use Rattle.logos_reduce.proofs.tables.EdgeLemmas.{edge_within, edge_symbol}
use Rattle.logos_reduce.proofs.whole.EndLemmas as end

-- a state that is there
got_below : (graph : List GraphState) (s : ℕ) (state : GraphState) → slice_get graph s ≡ Some state → s < length graph
got_below [] s state e = absurd (cc)
got_below (x ∷ graph) zero state e = omega arith
got_below (x ∷ graph) (suc s) state e = let l = got_below graph s state e in omega arith

got_there : (graph : List GraphState) (s : ℕ) → s < length graph → (state : GraphState) × (slice_get graph s ≡ Some state)
got_there [] s l = absurd (omega arith)
got_there (x ∷ graph) zero l = (x, refl)
got_there (x ∷ graph) (suc s) l = got_there graph s (omega arith)

-- walks by bytes alone, in both forms
walk_reach : (graph : List GraphState) (bytes : List ℕ) (s : ℕ) → walk graph s bytes false ≡ reach (edges_of graph) s bytes
walk_reach graph [] s = refl
walk_reach graph (b ∷ bytes) s = ap (λ (f : ℕ → Option ℕ). option_and_then f (next_by graph s b)) (λ i t. walk_reach graph bytes t i)

-- a state is determined by its entry
same_state : (graph : List GraphState) (s t : ℕ) → slice_get graph s ≡ slice_get graph t → (bytes : List ℕ) (ends : Bool) → type_after graph s bytes ends ≡ type_after graph t bytes ends
same_state graph s t e [] false = ap (option_map (λ (state : GraphState). state.state_type)) e
same_state graph s t e [] true =
    ap (λ (o : Option GraphState). option_and_then (λ t. option_map (λ (state : GraphState). state.state_type) (slice_get graph t)) (option_and_then (λ (state : GraphState). state.eoi) o)) e
same_state graph s t e (b ∷ bytes) ends = let q : next_by graph s b ≡ next_by graph t b = ap (λ (o : Option GraphState). option_and_then (λ (state : GraphState). option_map (λ edge. edge.1) (find (λ edge. is_in edge.0 b) state.normal)) o) e in
    ap (λ (o : Option ℕ). option_and_then (λ t. option_map (λ (state : GraphState). state.state_type) (slice_get graph t)) (option_and_then (λ next. walk graph next bytes ends) o)) q

-- a graph that shows a table whose states are distinguished
module _ (final : Table) (apart : table.IsLeast final) (ends : (s t k : ℕ) → to final s 256 ≡ Some t → to final t k ≡ None) (graph : List GraphState) (shows : Shows final graph) where
  -- fewer bytes than there are states distinguish different states
  pub short_evidence : (s t : ℕ) → s < length graph → t < length graph → s ≢ t →
      (bytes : List ℕ) × (ends : Bool) × IsBytes bytes × IsEvidence graph s t bytes ends
  short_evidence s t ls lt d =
      let n = shows.states in
      let hs : s < size final = omega arith in
      let ht : t < size final = omega arith in
      let w = apart s t hs ht d in
      let x = evidence final graph shows ends w.0 s t hs ht w.2 in
      (x.0, x.1, x.2, record { distinguishes = x.4; short = let a = w.1 in let b = x.3 in omega arith })

  pub least : IsLeast graph
  least s t ls lt d = let x = short_evidence s t ls lt d in (x.0, x.1, x.2, x.3.distinguishes)

  -- the type of a state of the graph
  has_type : (s : ℕ) (P : StateType → Type 0) → s < size final → P (type_of (mark final s)) → reduced.HasType graph s P
  has_type s P l p = go (slice_get graph s) (shows.types s l)
    where
      go : (o : Option GraphState) → option_map (λ (state : GraphState). state.state_type) o ≡ Some (type_of (mark final s)) → IsSomeAnd o (λ state. P state.state_type)
      go None e = absurd (cc)
      go (Some state) e = let q : type_of (mark final s) ≡ state.state_type = cc in subst P q p

  type_had : (s : ℕ) (P : StateType → Type 0) → reduced.HasType graph s P → (s < size final) × P (type_of (mark final s))
  type_had s P h = go (slice_get graph s) refl h
    where
      go : (o : Option GraphState) → slice_get graph s ≡ o → IsSomeAnd o (λ state. P state.state_type) → (s < size final) × P (type_of (mark final s))
      go None e p = absurd p
      go (Some state) e p =
          let l : s < size final = let m = got_below graph s state e in let n = shows.states in omega arith in
          let q : Some state.state_type ≡ Some (type_of (mark final s)) = ap (option_map (λ (state : GraphState). state.state_type)) (sym e) ∙ shows.types s l in
          let r : state.state_type ≡ type_of (mark final s) = cc in
          (l, subst P r p)

  -- the edges of the graph are those of the table
  graph_edge : (s k t : ℕ) → reduced.HasEdge graph s k t → (s < size final) × (to final s k ≡ Some t)
  graph_edge s k t (inl x) = go (slice_get graph s) refl
    where
      go : (o : Option GraphState) → slice_get graph s ≡ o → (s < size final) × (to final s k ≡ Some t)
      go None e =
          let n : next_by graph s k ≡ None = ap (λ (o : Option GraphState). option_and_then (λ (state : GraphState). option_map (λ edge. edge.1) (find (λ edge. is_in edge.0 k) state.normal)) o) e in
          let m : next_by graph s k ≡ Some t = x.1 in absurd (cc)
      go (Some state) e =
          let l : s < size final = let m = got_below graph s state e in let n = shows.states in omega arith in
          (l, sym (shows.next s k l x.0) ∙ x.1)
  graph_edge s k t (inr x) = go (slice_get graph s) refl
    where
      go : (o : Option GraphState) → slice_get graph s ≡ o → (s < size final) × (to final s k ≡ Some t)
      go None e =
          let n : next_at_end graph s ≡ None = ap (λ (o : Option GraphState). option_and_then (λ (state : GraphState). state.eoi) o) e in
          let m : next_at_end graph s ≡ Some t = x.1 in absurd (cc)
      go (Some state) e =
          let l : s < size final = let m = got_below graph s state e in let n = shows.states in omega arith in
          (l, ap (to final s) x.0 ∙ sym (shows.ends s l) ∙ x.1)

  edge_graph : (s k t : ℕ) → to final s k ≡ Some t → reduced.HasEdge graph s k t
  edge_graph s k t e = go (cases_lt k 256)
    where
      l : s < size final
      l = (edge_within final s k t e).0

      go : (k < 256) ⊎ (256 ≤ k) → reduced.HasEdge graph s k t
      go (inl m) = inl (m, shows.next s k l m ∙ e)
      go (inr m) =
          let w = edge_symbol final s k t e in
          let z : k ≡ 256 = omega arith in
          inr (z, shows.ends s l ∙ ap (to final s) (sym z) ∙ e)

  pub distinct : (s t : ℕ) → s < length graph → slice_get graph s ≡ slice_get graph t → s ≡ t
  distinct s t l e = go (eqb_tells s t)
    where
      lt : t < length graph
      lt = let x = got_there graph s l in got_below graph t x.0 (sym e ∙ x.1)

      go : ((nat_eq s t ≡ true) × (s ≡ t)) ⊎ ((nat_eq s t ≡ false) × (s ≢ t)) → s ≡ t
      go (inl q) = q.1
      go (inr q) = let x = least s t l lt q.1 in absurd (x.3 (same_state graph s t e x.0 x.1))

  -- a first edge of the graph is one of the table
  first_graph : (t s k : ℕ) → table.IsFirstEdge final t s k → reduced.IsFirstEdge graph t s k
  first_graph t s k x = record {
    edge = edge_graph s k t x.edge;
    first = λ r l e. x.first r l (graph_edge r l t e).1;
  }

  first_table : (t s k : ℕ) → reduced.IsFirstEdge graph t s k → table.IsFirstEdge final t s k
  first_table t s k x = record {
    edge = (graph_edge s k t x.edge).1;
    first = λ r l e. x.first r l (edge_graph r l t e);
  }

  pub in_numbers : table.IsInOrder final → (t : ℕ) → 0 < t → t < length graph → (s label : ℕ) × (s < t) × reduced.IsFirstEdge graph t s label
  in_numbers h t p l =
      let n = shows.states in
      let x = h.entered t p (omega arith) in
      (x.0, x.1, x.2, first_graph t x.0 x.1 x.3)

  pub in_order : table.IsInOrder final → (t u s label r at : ℕ) → 0 < t → t < u → reduced.IsFirstEdge graph t s label → reduced.IsFirstEdge graph u r at → (s < r) ⊎ ((s ≡ r) × (label < at))
  in_order h t u s label r at p l x y = h.rises t u s label r at p l (first_table t s label x) (first_table u r at y)

  shown : IsMap (λ s. s < size final) (λ s. s) (edges final) (edges_of graph)
  shown = fin.is_shown final graph shows

  -- each state but the root has a mark or leads to one
  pub useful : table.IsSpareless final → (s : ℕ) → 0 < s → s < length graph → (bytes : List ℕ) × (ends : Bool) × IsBytes bytes × IsSomeAnd (type_after graph s bytes ends) IsMarked
  useful h s p l = go (h.of_use s p hs)
    where
      hs : s < size final
      hs = let m = shows.states in omega arith

      go : IsOfUse final s → (bytes : List ℕ) × (ends : Bool) × IsBytes bytes × IsSomeAnd (type_after graph s bytes ends) IsMarked
      go (inl m) = ([], false, All-nil (λ b. b < 256), rw (type_here final graph shows s hs) m)
      go (inr m) = leads_to graph s (map_leads (λ s. s < size final) (λ s. s) (edges final) (edges_of graph) shown s hs m)

  -- a late mark is needed on some way in
  pub late : table.IsSpareless final → (t leaf : ℕ) → reduced.HasType graph t (λ type. type.accept ≡ Some leaf) →
      (s label : ℕ) × reduced.HasEdge graph s label t × reduced.HasType graph s (λ type. type.early ≢ Some leaf)
  late h t leaf x =
      let e = h.needed t leaf (type_had t (λ type. type.accept ≡ Some leaf) x).1 in (
        e.0,
        e.1,
        edge_graph e.0 e.1 t e.2,
        has_type e.0 (λ type. type.early ≢ Some leaf) (edge_within final e.0 e.1 t e.2).0 e.3,
      )

-- a property of the reduced table of an automaton
module _ (raw : Table) (root : ℕ) (reduction : Reduction) (made : table.IsReductionOf raw root reduction) (is_raw : IsRaw raw root) where
  abbrev mid : Table
  mid = made.marked

  abbrev pruned : Table
  pruned = made.useful

  abbrev final : Table
  final = reduction.table

  abbrev IsIn : ℕ → Type 0
  IsIn = end.IsIn raw root reduction made

  abbrev number : ℕ → ℕ
  number = end.number raw root reduction made

  root_is : IsIn root × (number root ≡ 0)
  root_is = end.root_is raw root reduction made is_raw.root_in

  number_type : (s : ℕ) → IsIn s → type_of (mark final (number s)) ≡ type_of (mark mid s)
  number_type = end.number_type raw root reduction made

  mid_edge : (s k u : ℕ) → to pruned s k ≡ Some u → (to mid s k ≡ Some u) × IsOfUse mid u
  mid_edge = end.mid_edge raw root reduction made

  raw_edge : (s k : ℕ) → to mid s k ≡ to raw s k
  raw_edge = end.raw_edge raw root reduction made

  in_raw : (s : ℕ) → IsIn s → s < size raw
  in_raw = end.in_raw raw root reduction made

  no_accept : (s : ℕ) → s < size raw → (mark raw s).accept ≡ None → (mark mid s).accept ≡ None
  no_accept s l e = go (made.settled.late s l)
    where
      go : IsNeededOrSpare raw mid s → (mark mid s).accept ≡ None
      go (inl x) = x.0 ∙ e
      go (inr x) = x.0

  not_late : (type : StateType) → type.accept ≡ None → IsLate type → ⊥
  not_late type e l = none_is_none type.accept e l.1

  -- a state after the end has a late mark
  late_at_end : (s u : ℕ) → to raw s 256 ≡ Some u → IsOfUse mid u → IsLate (type_of (mark mid u))
  late_at_end s u e (inr m) = absurd (end.dead_end raw root reduction made is_raw s u e m)
  late_at_end s u e (inl (inl m)) = absurd (none_is_none (mark mid u).early (end.late_end raw root reduction made is_raw s u e) m)
  late_at_end s u e (inl (inr m)) = (end.late_end raw root reduction made is_raw s u e, m)

  -- the type of a state of the final table
  leader_type : (i : ℕ) → i < size final → (t : ℕ) × IsIn t × (type_of (mark final i) ≡ type_of (mark mid t))
  leader_type i l =
      let p = end.lead_number raw root reduction made i l in
      (end.leader_of raw root reduction made i, p.0, ap (λ (j : ℕ). type_of (mark final j)) (sym p.1) ∙ number_type (end.leader_of raw root reduction made i) p.0)

  -- an edge of the first state
  first_edge_of : (k t : ℕ) → to final 0 k ≡ Some t → (u : ℕ) × (to raw root k ≡ Some u) × IsIn u × (number u ≡ t) × IsOfUse mid u
  first_edge_of k t e = go (to pruned root k) refl (sym (end.same_edge raw root reduction made root k root_is.0) ∙ ap (λ (j : ℕ). to final j k) root_is.1 ∙ e)
    where
      go : (o : Option ℕ) → to pruned root k ≡ o → option_map number o ≡ Some t → (u : ℕ) × (to raw root k ≡ Some u) × IsIn u × (number u ≡ t) × IsOfUse mid u
      go None q z = absurd (cc)
      go (Some u) q z =
          let m = mid_edge root k u q in (
            u,
            sym (raw_edge root k) ∙ m.0,
            end.stays_in raw root reduction made root u k root_is.0 q,
            let same : number u ≡ t = cc in same,
            m.1,
          )

  pub late_after_end : (s t : ℕ) → to final s 256 ≡ Some t → IsLate (type_of (mark final t)) × (to final t 256 ≡ None)
  late_after_end s t e =
      let p = end.final_target raw root reduction made s 256 t e in
      let m = mid_edge (end.leader_of raw root reduction made s) 256 p.0 p.1 in
      let late = late_at_end (end.leader_of raw root reduction made s) p.0 (sym (raw_edge (end.leader_of raw root reduction made s) 256) ∙ m.0) m.1 in
      let same : type_of (mark final t) ≡ type_of (mark mid p.0) = ap (λ (j : ℕ). type_of (mark final j)) (sym p.3) ∙ number_type p.0 p.2 in
      (subst IsLate (sym same) late, end.final_end raw root reduction made is_raw s t 256 e)

  -- marks name the leaves of the automaton
  module _ (leaves : ℕ) (named : (s : ℕ) → s < size raw → NamesLeaves leaves (type_of (mark raw s))) where
    accept_named : (s leaf : ℕ) → s < size raw → (mark raw s).accept ≡ Some leaf → leaf < leaves
    accept_named s leaf l e = subst (λ (o : Option ℕ). IfSome o (λ leaf. leaf < leaves)) e (named s l).0

    all_named : (s leaf : ℕ) → AllAccepted raw s leaf → leaf < leaves
    all_named s leaf all = go (to raw s 0) refl (all 0 (omega arith))
      where
        go : (o : Option ℕ) → to raw s 0 ≡ o → option_and_then (λ t. (mark raw t).accept) o ≡ Some leaf → leaf < leaves
        go None q e = absurd (cc)
        go (Some t) q e = accept_named t leaf (edge_within raw s 0 t q).1 e

    if_some : (o : Option ℕ) → ((leaf : ℕ) → o ≡ Some leaf → leaf < leaves) → IfSome o (λ leaf. leaf < leaves)
    if_some None f = tt
    if_some (Some leaf) f = f leaf refl

    mid_named : (s : ℕ) → s < size raw → NamesLeaves leaves (type_of (mark mid s))
    mid_named s l = (
      if_some (mark mid s).accept (λ leaf e. accept_named s leaf l (kept_accept raw mid root is_raw made.settled s leaf l e)),
      if_some (mark mid s).early (λ leaf e. all_named s leaf ((made.settled.early s l leaf).0 e)),
    )

    pub final_named : (s : ℕ) → s < size final → NamesLeaves leaves (type_of (mark final s))
    final_named s l = let t = leader_type s l in subst (NamesLeaves leaves) (sym t.2) (mid_named t.0 (in_raw t.0 t.1))

  -- no match is empty
  module _ (rules : List Rule) (start : AllStart rules) (reads : MarksOneByteLate rules (edges raw) root) where
    nothing_first : (o : Option ℕ) (bytes : List ℕ) → FirstOrNone rules o bytes 0 0 → o ≡ None
    nothing_first None bytes f = refl
    nothing_first (Some leaf) bytes f = absurd (no_empty_match rules leaf bytes 0 (omega arith) start.1 f.matches)

    first_byte_unmarked : (b u : ℕ) → b < 256 → to raw root b ≡ Some u → (mark raw u).accept ≡ None
    first_byte_unmarked b u l e =
        let r = reads.by_byte [] b (All-cons (λ b. b < 256) b [] l (All-nil (λ b. b < 256))) in
        go r.0 r.1 r.2.first
      where
        go : (t : ℕ) → option_and_then (λ (t : ℕ). Some t) (to raw root b) ≡ Some t → FirstOrNone rules (mark raw t).accept (b ∷ []) 0 0 → (mark raw u).accept ≡ None
        go t w f =
            let z : Some u ≡ Some t = ap (option_and_then (λ (t : ℕ). Some t)) (sym e) ∙ w in
            let same : u ≡ t = cc in
            ap (λ (t : ℕ). (mark raw t).accept) same ∙ nothing_first (mark raw t).accept (b ∷ []) f

    first_end_unmarked : (u : ℕ) → to raw root 256 ≡ Some u → (mark raw u).accept ≡ None
    first_end_unmarked u e =
        let r = reads.at_end [] (All-nil (λ b. b < 256)) in
        go r.0 r.1 r.2 r.3 r.4.first
      where
        go : (s t : ℕ) → Some root ≡ Some s → to raw s 256 ≡ Some t → FirstOrNone rules (mark raw t).accept [] 0 0 → (mark raw u).accept ≡ None
        go s t w q f =
            let from : root ≡ s = cc in
            let z : Some u ≡ Some t = sym e ∙ ap (λ (s : ℕ). to raw s 256) from ∙ q in
            let same : u ≡ t = cc in
            ap (λ (t : ℕ). (mark raw t).accept) same ∙ nothing_first (mark raw t).accept [] f

    first_type : type_of (mark final 0) ≡ type_of (mark mid root)
    first_type = ap (λ (j : ℕ). type_of (mark final j)) (sym root_is.1) ∙ number_type root root_is.0

    pub first_unmarked : IsUnmarked (type_of (mark final 0))
    first_unmarked =
        subst IsUnmarked (sym first_type) (
          late_root rules start (edges raw) root reads (edges mid).type_of (fin.settled raw root reduction made is_raw),
          no_accept root is_raw.root_in is_raw.root_mark,
        )

    pub first_not_late : (b t : ℕ) → b < 256 → to final 0 b ≡ Some t → ¬ IsLate (type_of (mark final t))
    first_not_late b t l e = λ late.
        let x = first_edge_of b t e in
        let same : type_of (mark final t) ≡ type_of (mark mid x.0) = ap (λ (j : ℕ). type_of (mark final j)) (sym x.3) ∙ number_type x.0 x.2 in
        not_late (type_of (mark mid x.0)) (no_accept x.0 (in_raw x.0 x.2) (first_byte_unmarked b x.0 l x.1)) (subst IsLate same late)

    pub first_no_end : to final 0 256 ≡ None
    first_no_end = go (to final 0 256) refl
      where
        go : (o : Option ℕ) → to final 0 256 ≡ o → o ≡ None
        go None q = refl
        go (Some t) q =
            let x = first_edge_of 256 t q in
            absurd (not_late (type_of (mark mid x.0)) (no_accept x.0 (in_raw x.0 x.2) (first_end_unmarked x.0 x.1)) (late_at_end root x.0 x.1 x.4))

    pub is_fit : (leaves : ℕ) → ((s : ℕ) → s < size raw → NamesLeaves leaves (type_of (mark raw s))) → IsFit final leaves
    is_fit leaves named = record {
      some = let n = made.numbered.states_of in let m = made.numbered.some in omega arith;
      marks = final_named leaves named;
      ends = late_after_end;
      first = first_unmarked;
      first_edges = first_not_late;
      first_end = first_no_end;
    }

  module _ (apart : table.IsLeast final) (order : table.IsInOrder final) (spareless : table.IsSpareless final) (evidence : YieldsEvidence reduction) (graph : List GraphState) (shows : Shows final graph) where
    abbrev ends : (s t k : ℕ) → to final s 256 ≡ Some t → to final t k ≡ None
    ends = evidence.ends

    -- the settled table, with the edges of the automaton
    abbrev early_too : Edges ℕ
    early_too = record { type_of = (edges mid).type_of; next = to raw; at_end = λ s. to raw s 256 }

    abbrev whole_map : IsMap IsIn number (edges pruned) (edges_of graph)
    whole_map = fin.whole_map raw root reduction made is_raw graph shows

    module _ (rules : List Rule) (reads : MarksOneByteLate rules (edges raw) root) where
      -- the types play no part in a walk
      same_walk : (bytes : List ℕ) (s : ℕ) → reach early_too s bytes ≡ reach (edges raw) s bytes
      same_walk [] s = refl
      same_walk (b ∷ bytes) s = ap (λ (f : ℕ → Option ℕ). option_and_then f (to raw s b)) (λ i x. same_walk bytes x i)

      -- a walk in the graph stays there
      reach_in : (bytes : List ℕ) → IsBytes bytes → (s t : ℕ) → s < size final → reach (edges_of graph) s bytes ≡ Some t → t < size final
      reach_in [] ok s t l e = let q : s ≡ t = cc in omega arith
      reach_in (b ∷ bytes) ok s t l e = go (next_by graph s b) refl e (reach_in bytes (other_bytes b bytes ok))
        where
          go : (o : Option ℕ) → next_by graph s b ≡ o → option_and_then (λ r. reach (edges_of graph) r bytes) o ≡ Some t → ((s t : ℕ) → s < size final → reach (edges_of graph) s bytes ≡ Some t → t < size final) → t < size final
          go None q x ih = absurd (cc)
          go (Some r) q x ih = ih r t (edge_within final s b r (sym (shows.next s b l (first_byte b bytes ok)) ∙ q)).1 x

      -- a state reached by bytes alone is early for the leaf that is settled there, and for no
      -- other
      pub early : (bytes : List ℕ) (s leaf : ℕ) → IsBytes bytes → walk graph 0 bytes false ≡ Some s → reduced.HasType graph s (λ type. (type.early ≡ Some leaf) ↔ reduced.IsSettled rules bytes leaf)
      early bytes s leaf ok w =
          let way : reach (edges_of graph) 0 bytes ≡ Some s = sym (walk_reach graph bytes 0) ∙ w in
          let from : reach (edges_of graph) (number root) bytes ≡ Some s = ap (λ (r : ℕ). reach (edges_of graph) r bytes) root_is.1 ∙ way in
          let some : 0 < size final = let n = made.numbered.states_of in let m = made.numbered.some in omega arith in
          let l = reach_in bytes ok 0 s some way in
          let u = same_type {S = ℕ} {T = ℕ} early_too (edges pruned) (fin.pruned_edges raw root reduction made is_raw) IsIn number (edges_of graph) whole_map bytes ok root root_is.0 s from in
          let a = all_accept_settled rules (edges raw) root reads bytes u.0 leaf ok (sym (same_walk bytes root) ∙ u.1) in
          let t : type_of (mark final s) ≡ type_of (mark mid u.0) = sym (fin.shown_type final graph shows s l) ∙ u.2 in
          let e : (mark final s).early ≡ (mark mid u.0).early = ap (λ (y : StateType). y.early) t in
          has_type final apart ends graph shows s (λ type. (type.early ≡ Some leaf) ↔ reduced.IsSettled rules bytes leaf) l
          (λ q. a.0 ((fin.settled raw root reduction made is_raw).early u.0 leaf (sym e ∙ q)), λ h. e ∙ red.early_all raw mid is_raw.late_only made.settled u.0 leaf (a.1 h))

      pub is_reduced : reduced.IsReduced rules graph
      is_reduced = record {
        early = early;
        useful = useful final apart ends graph shows spareless;
        late = late final apart ends graph shows spareless;
        distinct = distinct final apart ends graph shows;
        numbered = in_numbers final apart ends graph shows order;
        ordered = in_order final apart ends graph shows order;
        by_target = shows.by_target;
      }

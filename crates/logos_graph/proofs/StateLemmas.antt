-- The states of a graph, while they are made from a table.
use Rattle.std.proofs.Common.{◌≡◌, ℕ, zero, suc, ◌<◌, ◌⊎◌, inl, inr, List, [], ◌∷◌, ◌++◌, length, map, get_or, slice_get, Option, Some, None, IsSomeAnd, option_map, option_and_then, refl, sym, ◌∙◌, ap, subst, arith}
use Rattle.std.proofs.lemmas.List.{get_or-map, length-map}
use Rattle.std.proofs.lemmas.List.Elements.{All-weaker}
use Rattle.std.proofs.lemmas.Option.{slice_get-get_or}
use Rattle.std.specs.List.{All}
use Rattle.std.specs.List.Sorted.{IsStrictlyIncreasing}
use Rattle.logos_graph.specs.FinishedGraph.{Edge, AreNeat, edge_leads, IsLate, IsUnmarked, NamesLeaves, IsFit, IsFinishedState, IsFirstState, IsFinished}
use Rattle.logos_graph.specs.Graph.{GraphState}
use Rattle.logos_graph.specs.GraphView.{graph_state_of}
use Rattle.logos_reduce.specs.Table.{size, to, mark, type_of}
use Rattle.logos_graph.specs.ReduceShown.{Shows}
use Rattle.logos_graph.specs.inside.States.{IsEdgeOf, AreEdgesOf, IsStateOf, AreStatesOf}
use Rattle.logos_graph.specs.declared.graph.StateData.{StateData}
use Rattle.logos_reduce.specs.declared.table.Table.{Table}
use Rattle.logos_reduce.proofs.tables.EdgeLemmas.{edge_within}
use Rattle.logos_graph.proofs.EdgeLemmas.{edges_neat, edges_increase}

-- the element at an index of a list with one more element
pub got_pushed : {A : Type 0} (xs : List A) (x y : A) (i : ℕ) → slice_get (xs ++ x ∷ []) i ≡ Some y → (slice_get xs i ≡ Some y) ⊎ ((i ≡ length xs) × (x ≡ y))
got_pushed [] x y zero e = inr (refl, cc)
got_pushed [] x y (suc i) e = absurd (cc)
got_pushed (z ∷ xs) x y zero e = inl e
got_pushed (z ∷ xs) x y (suc i) e = go (got_pushed xs x y i e)
  where
    go : (slice_get xs i ≡ Some y) ⊎ ((i ≡ length xs) × (x ≡ y)) → (slice_get xs i ≡ Some y) ⊎ ((suc i ≡ length (z ∷ xs)) × (x ≡ y))
    go (inl p) = inl p
    go (inr p) = inr (let q = p.0 in omega arith, p.1)

pub there : {A : Type 0} (xs : List A) (i : ℕ) → i < length xs → (x : A) × (slice_get xs i ≡ Some x)
there [] i l = absurd (omega arith)
there (x ∷ xs) zero l = (x, refl)
there (x ∷ xs) (suc i) l = there xs i (omega arith)

pub states_more : (table : Table) (graph : List GraphState) (state : GraphState) (n : ℕ) → length graph ≡ n → AreStatesOf table graph → IsStateOf table n state →
    AreStatesOf table (graph ++ state ∷ [])
states_more table graph state n len are is = λ s found e. go s found (got_pushed graph state found s e)
  where
    go : (s : ℕ) (found : GraphState) → (slice_get graph s ≡ Some found) ⊎ ((s ≡ length graph) × (state ≡ found)) → IsStateOf table s found
    go s found (inl p) = are s found p
    go s found (inr p) =
        let e : n ≡ s = let q = p.0 in omega arith in
        subst (λ (x : GraphState). IsStateOf table s x) p.1 (subst (λ m. IsStateOf table m state) e is)

-- a row and the table agree
pub edges_same : (leads other : ℕ → Option ℕ) (edges : List Edge) → ((b : ℕ) → leads b ≡ other b) → AreEdgesOf leads 256 edges → AreEdgesOf other 256 edges
edges_same leads other edges same are = subst (λ (f : ℕ → Option ℕ). AreEdgesOf f 256 edges) (λ i b. same b i) are

module _ (table : Table) (graph : List GraphState) (len : length graph ≡ size table) (are : AreStatesOf table graph) where
  abbrev Found : ℕ → Type 0
  Found s = (state : GraphState) × (slice_get graph s ≡ Some state) × IsStateOf table s state

  found : (s : ℕ) → s < size table → Found s
  found s l = let p = there graph s (omega arith) in (p.0, p.1, are s p.0 p.1)

  each : (P : GraphState → Type 0) → ((s : ℕ) (state : GraphState) → s < size table → IsStateOf table s state → P state) → All P graph
  each P all = λ k d l. all k (get_or graph k d) (omega arith) (are k (get_or graph k d) (slice_get-get_or graph k d l))

  -- a property of the state to which an edge leads
  at : (t : ℕ) (P : GraphState → Type 0) → t < size table → ((state : GraphState) → IsStateOf table t state → P state) → IsSomeAnd (slice_get graph t) P
  at t P l all = let f = found t l in subst (λ (o : Option GraphState). IsSomeAnd o P) (sym f.1) (all f.0 f.2)

  pub states_show : Shows table graph
  states_show = record {
    states = len;
    types = λ s l. let f = found s l in ap (option_map (λ (state : GraphState). state.state_type)) f.1 ∙ ap Some f.2.type;
    next = λ s b l m. let f = found s l in ap (option_and_then (λ (state : GraphState). edge_leads state.normal b)) f.1 ∙ f.2.edges.done b m;
    ends = λ s l. let f = found s l in ap (option_and_then (λ (state : GraphState). state.eoi)) f.1 ∙ f.2.end;
    by_target =
        each (λ state. IsStrictlyIncreasing (map (λ edge. edge.1) state.normal))
        (λ s state l is. edges_increase (to table s) state.normal is.edges);
  }

  pub states_neat : All (λ state. AreNeat state.normal) graph
  states_neat = each (λ state. AreNeat state.normal) (λ s state l is. edges_neat (to table s) state.normal is.edges)

  -- a byte leads where an edge leads
  entered : (s : ℕ) (state : GraphState) → IsStateOf table s state → All (λ edge. (b : ℕ) × (b < 256) × (to table s b ≡ Some edge.1)) state.normal
  entered s state is =
      All-weaker (IsEdgeOf (to table s) 256) (λ edge. (b : ℕ) × (b < 256) × (to table s b ≡ Some edge.1)) (λ edge is. is.some) state.normal is.edges.each

  module _ (leaves : ℕ) (fit : IsFit table leaves) where
    ends_in : (s t : ℕ) → to table s 256 ≡ Some t → (last : GraphState) → IsStateOf table t last → IsLate last.state_type × (last.eoi ≡ None)
    ends_in s t e last is =
        let p = fit.ends s t e in
        (subst IsLate (sym is.type) p.0, is.end ∙ p.1)

    finished_state : (s : ℕ) (state : GraphState) → s < size table → IsStateOf table s state → IsFinishedState graph leaves state
    finished_state s state l is = record {
      neat = edges_neat (to table s) state.normal is.edges;
      targets =
          All-weaker (λ edge. (b : ℕ) × (b < 256) × (to table s b ≡ Some edge.1)) (λ edge. edge.1 < length graph)
          (λ edge p. let w = (edge_within table s p.0 edge.1 p.2).1 in omega arith) state.normal (entered s state is);
      marks = subst (NamesLeaves leaves) (sym is.type) (fit.marks s l);
      ends = λ t e.
          let q = sym is.end ∙ e in
          at t (λ last. IsLate last.state_type × (last.eoi ≡ None)) (edge_within table s 256 t q).1 (ends_in s t q);
    }

    not_late : (t : ℕ) → ¬ IsLate (type_of (mark table t)) → ¬ IsSomeAnd (slice_get graph t) (λ next. IsLate next.state_type)
    not_late t n = go (slice_get graph t) refl
      where
        go : (o : Option GraphState) → slice_get graph t ≡ o → IsSomeAnd o (λ next. IsLate next.state_type) → ⊥
        go None e p = absurd p
        go (Some next) e p = n (subst IsLate (are t next e).type p)

    first_state : (state : GraphState) → IsStateOf table 0 state → IsFirstState graph leaves state
    first_state state is = record {
      unmarked = subst IsUnmarked (sym is.type) fit.first;
      early =
          All-weaker (λ edge. (b : ℕ) × (b < 256) × (to table 0 b ≡ Some edge.1)) (λ edge. ¬ IsSomeAnd (slice_get graph edge.1) (λ next. IsLate next.state_type))
          (λ edge p. not_late edge.1 (fit.first_edges p.0 edge.1 p.1 p.2)) state.normal (entered 0 state is);
      no_end = is.end ∙ fit.first_end;
    }

    pub states_finished : IsFinished graph leaves
    states_finished = record {
      few = let f = table.few in omega arith;
      states = each (IsFinishedState graph leaves) finished_state;
      first = at 0 (IsFirstState graph leaves) fit.some first_state;
    }

-- the lemma above for the states of the program
pub program_neat : (states : List StateData) → All (λ state. AreNeat state.normal) (map graph_state_of states) → All (λ state. AreNeat (graph_state_of state).normal) states
program_neat states all = λ k d l.
    subst (λ (state : GraphState). AreNeat state.normal) (get_or-map graph_state_of states k d (graph_state_of d) l)
    (all k (graph_state_of d) (let n = length-map states graph_state_of in omega arith))

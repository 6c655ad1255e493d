-- A graph that represents the reduced table of an automaton has the results of maximal munch.
use Rattle.std.proofs.Common.{◌≡◌, ◌↔◌, ℕ, ◌<◌, inl, inr, Bool, slice_get, drop, List, length, Option, Some, None, option_map, option_and_then, refl, sym, ◌∙◌, ap, subst}
use Rattle.std.specs.Option.{option_map_or}
use Rattle.logos_hir.specs.Text.{IsBytes}
use Rattle.logos_graph.specs.Found.{FindsTheLongest, mark_after, mark_of}
use Rattle.logos_graph.specs.Graph.{GraphState}
use Rattle.logos_automaton.specs.Munch.{Rule, Found, Finds}
use Rattle.logos_graph.specs.ReduceShown.{Shows}
use Rattle.logos_automaton.specs.Faults.{AllStart}
use Rattle.logos_graph.specs.inside.Walk.{MarksOneByteLate, WalkFinds, edges_of}
use Rattle.logos_graph.proofs.Longest.{finds_the_longest, late_root}
use Rattle.logos_graph.proofs.Maps.{IsMap}
use Rattle.logos_graph.proofs.Pruned.{IsPruned}
use Rattle.logos_graph.proofs.ReductionLemmas as red
use Rattle.logos_graph.proofs.ScanFacts.{finds_alike, nat_lt-zero}
use Rattle.logos_reduce.specs.Edges.{StateType, Edges}
use Rattle.logos_reduce.specs.Raw.{IsRaw}
use Rattle.logos_reduce.specs.Reduction.{IsReductionOf}
use Rattle.logos_reduce.specs.Rows.{target_in}
use Rattle.logos_reduce.specs.Settle.{IsNeededOrSpare}
use Rattle.logos_reduce.specs.Table.{size, to, mark, type_of, edges}
use Rattle.logos_reduce.specs.declared.reduction.Reduction.{Reduction}
use Rattle.logos_reduce.specs.declared.table.Table.{Table}
use Rattle.logos_reduce.proofs.tables.EdgeLemmas.{edge_within}
use Rattle.logos_reduce.proofs.whole.EndLemmas as end
use Rattle.logos_graph.proofs.Settled.{AreSettled}

-- one map after another
pub map_on : {S T U : Type 0} (I : S → Type 0) (J : T → Type 0) (f : S → T) (k : T → U) (g : Edges S) (h : Edges T) (l : Edges U) →
    ((s : S) → I s → J (f s)) → IsMap I f g h → IsMap J k h l → IsMap I (λ s. k (f s)) g l
map_on I J f k g h l into x y = record {
  inside = x.inside;
  types = λ s i. y.types (f s) (into s i) ∙ x.types s i;
  edges = λ s b m i. y.edges (f s) b m (into s i) ∙ ap (option_map k) (x.edges s b m i) ∙ twice (g.next s b);
  ends = λ s i. y.ends (f s) (into s i) ∙ ap (option_map k) (x.ends s i) ∙ twice (g.at_end s);
  end_types = λ s t i e. y.end_types (f s) (f t) (into s i) (x.ends s i ∙ ap (option_map f) e) ∙ x.end_types s t i e;
}
  where
    twice : (o : Option _) → option_map k (option_map f o) ≡ option_map (λ s. k (f s)) o
    twice None = refl
    twice (Some t) = refl

-- a graph that shows a table is its image
module _ (table : Table) (graph : List GraphState) (h : Shows table graph) where
  pub shown_type : (s : ℕ) → s < size table → (edges_of graph).type_of s ≡ type_of (mark table s)
  shown_type s l = go (slice_get graph s) (h.types s l)
    where
      go : (o : Option GraphState) → option_map (λ state. state.state_type) o ≡ Some (type_of (mark table s)) →
          option_map_or (λ (state : GraphState). state.state_type) o (record { accept = None; early = None }) ≡ type_of (mark table s)
      go None e = absurd (cc)
      go (Some state) e = cc

  same_option : (o : Option ℕ) → o ≡ option_map (λ s. s) o
  same_option None = refl
  same_option (Some t) = refl

  pub is_shown : IsMap (λ s. s < size table) (λ s. s) (edges table) (edges_of graph)
  is_shown = record {
    inside = λ s t b l i e. (edge_within table s b t e).1;
    types = shown_type;
    edges = λ s b l i. h.next s b i l ∙ same_option (to table s b);
    ends = λ s i. h.ends s i ∙ same_option (to table s 256);
    end_types = λ s t i e. shown_type t (edge_within table s 256 t e).1;
  }

module _ (raw : Table) (root : ℕ) (reduction : Reduction) (made : IsReductionOf raw root reduction) (is_raw : IsRaw raw root) where
  abbrev mid : Table
  mid = made.marked

  abbrev pruned : Table
  pruned = made.useful

  abbrev final : Table
  final = reduction.table

  abbrev same_edges : to mid ≡ to raw
  same_edges = ap target_in made.settled.rows

  pub settled : AreSettled (to raw) (λ s. to raw s 256) (edges raw).type_of (edges mid).type_of
  settled = red.are_settled raw mid is_raw.late_only made.settled

  pub pruned_edges : IsPruned (record { type_of = (edges mid).type_of; next = to raw; at_end = λ s. to raw s 256 }) (edges pruned)
  pruned_edges =
      subst (λ (f : ℕ → ℕ → Option ℕ). IsPruned (record { type_of = (edges mid).type_of; next = f; at_end = λ s. f s 256 }) (edges pruned)) same_edges (red.is_pruned mid pruned made.pruned)

  abbrev IsIn : ℕ → Type 0
  IsIn = end.IsIn raw root reduction made

  abbrev number : ℕ → ℕ
  number = end.number raw root reduction made

  root_is : IsIn root × (number root ≡ 0)
  root_is = end.root_is raw root reduction made is_raw.root_in

  final_map : IsMap IsIn number (edges pruned) (edges final)
  final_map = red.is_map pruned final reduction.splits.items made.block made.leader root reduction.blocks.items made.merged made.numbered

  module _ (graph : List GraphState) (shows : Shows final graph) where
    pub whole_map : IsMap IsIn number (edges pruned) (edges_of graph)
    whole_map = map_on IsIn (λ s. s < size final) number (λ s. s) (edges pruned) (edges final) (edges_of graph) (end.number_in raw root reduction made) final_map (is_shown final graph shows)

    module _ (rules : List Rule) (start : AllStart rules) (reads : MarksOneByteLate rules (edges raw) root) where
      pub walk_finds : (utf8 : Bool) (bytes : List ℕ) (from : ℕ) → IsBytes bytes → (found : Found) → WalkFinds (edges_of graph) 0 utf8 bytes from found ↔ Finds rules utf8 bytes from found
      walk_finds utf8 bytes from ok found =
          let h = finds_the_longest rules start (edges raw) root reads (edges mid).type_of settled (end.late_end raw root reduction made is_raw) (edges pruned) pruned_edges
          IsIn number (edges_of graph) whole_map root_is.0 utf8 bytes from ok found in
          subst (λ (s : ℕ). WalkFinds (edges_of graph) s utf8 bytes from found ↔ Finds rules utf8 bytes from found) root_is.1 h

      -- the root has no mark
      root_late : (mark mid root).accept ≡ None
      root_late = go (made.settled.late root is_raw.root_in)
        where
          go : IsNeededOrSpare raw mid root → (mark mid root).accept ≡ None
          go (inl x) = x.0 ∙ is_raw.root_mark
          go (inr x) = x.0

      root_early : (mark mid root).early ≡ None
      root_early = late_root rules start (edges raw) root reads (edges mid).type_of settled

      root_type : (edges_of graph).type_of 0 ≡ record { accept = None; early = None }
      root_type =
          let a : (edges_of graph).type_of (number root) ≡ (edges pruned).type_of root = whole_map.types root root_is.0 in
          let b : (edges pruned).type_of root ≡ (edges mid).type_of root = pruned_edges.types root in
          let c : (edges mid).type_of root ≡ record { accept = None; early = None } = (λ i. record { accept = root_late i; early = root_early i }) in
          ap (edges_of graph).type_of (sym root_is.1) ∙ a ∙ b ∙ c

      unmarked_root : (utf8 : Bool) (bytes : List ℕ) (from : ℕ) → mark_after graph utf8 bytes from 0 ≡ None
      unmarked_root utf8 bytes from = rw (nat_lt-zero (length (drop from bytes))) (go (slice_get graph 0) root_type)
        where
          unmarked : (e a : Option ℕ) → e ≡ None → a ≡ None → mark_of (record { accept = a; early = e }) 0 ≡ None
          unmarked None None p q = refl
          unmarked (Some l) a p q = absurd (cc)
          unmarked None (Some l) p q = absurd (cc)

          go : (o : Option GraphState) → option_map_or (λ (state : GraphState). state.state_type) o (record { accept = None; early = None }) ≡ record { accept = None; early = None } →
              option_and_then (λ type. mark_of type 0) (option_map (λ (state : GraphState). state.state_type) o) ≡ None
          go None q = refl
          go (Some state) q = unmarked state.state_type.early state.state_type.accept (ap (λ (t : StateType). t.early) q) (ap (λ (t : StateType). t.accept) q)

      pub finds : (utf8 : Bool) → FindsTheLongest rules utf8 graph
      finds utf8 bytes from found ok =
          let a = finds_alike graph utf8 bytes from (unmarked_root utf8 bytes from) found in
          let b = walk_finds utf8 bytes from ok.0 found in
          (λ x. b.0 (a.0 x), λ x. a.1 (b.1 x))

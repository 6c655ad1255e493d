-- A state of a finished graph that leads to a mark, by the words of `IsReduced.useful`.
use Rattle.std.proofs.Common.{ℕ, ◌<◌, inl, inr, Bool, true, false, List, [], ◌∷◌, Option, Some, None, IsSome, IsSomeAnd, slice_get, option_map, option_and_then, sym, subst}
use Rattle.std.proofs.lemmas.List.Elements.{All-cons, All-nil}
use Rattle.std.specs.Option.{option_map_or}
use Rattle.logos_hir.specs.Text.{IsBytes}
use Rattle.logos_graph.specs.Graph.{GraphState, walk, type_after}
use Rattle.logos_reduce.specs.Edges.{IsMarked, Leads, to_mark, onward, to_end}
use Rattle.logos_graph.specs.inside.Walk.{edges_of}

module _ (graph : List GraphState) where
  abbrev LeadsTo : ℕ → Type 0
  LeadsTo s = (bytes : List ℕ) × (ends : Bool) × IsBytes bytes × IsSomeAnd (type_after graph s bytes ends) IsMarked

  there : (t : ℕ) → IsMarked ((edges_of graph).type_of t) → IsSomeAnd (option_map (λ (state : GraphState). state.state_type) (slice_get graph t)) IsMarked
  there t m = go (slice_get graph t) m
    where
      go : (o : Option GraphState) → IsMarked (option_map_or (λ (state : GraphState). state.state_type) o (record { accept = None; early = None })) →
          IsSomeAnd (option_map (λ (state : GraphState). state.state_type) o) IsMarked
      go None (inl m) = let n : IsSome {T = ℕ} None = m in absurd (cc)
      go None (inr m) = let n : IsSome {T = ℕ} None = m in absurd (cc)
      go (Some state) m = m

  pub leads_to : (s : ℕ) → Leads (edges_of graph) s → LeadsTo s
  leads_to s (to_mark {t = t} b ok e m) = (
    b ∷ [],
    false,
    All-cons (λ b. b < 256) b [] ok (All-nil (λ b. b < 256)),
    subst (λ (o : Option ℕ). IsSomeAnd (option_and_then (λ t. option_map (λ (state : GraphState). state.state_type) (slice_get graph t)) (option_and_then (λ next. walk graph next [] false) o)) IsMarked) (sym e) (there t m),
  )
  leads_to s (onward {t = t} b ok e l) =
      let r = leads_to t l in (
        b ∷ r.0,
        r.1,
        All-cons (λ b. b < 256) b r.0 ok r.2,
        subst (λ (o : Option ℕ). IsSomeAnd (option_and_then (λ t. option_map (λ (state : GraphState). state.state_type) (slice_get graph t)) (option_and_then (λ next. walk graph next r.0 r.1) o)) IsMarked) (sym e) r.3,
      )
  leads_to s (to_end {t = t} e m) = (
    [],
    true,
    All-nil (λ b. b < 256),
    subst (λ (o : Option ℕ). IsSomeAnd (option_and_then (λ t. option_map (λ (state : GraphState). state.state_type) (slice_get graph t)) o) IsMarked) (sym e) (there t m),
  )

-- The steps of a machine over the edges of a graph are the edges that inputs pass.
use Rattle.std.proofs.Common.{◌≡◌, ◌⊎◌, ℕ, zero, suc, Bool, false, List, [], ◌∷◌, take, Option, None, Some, is_some, IsSomeAnd, option_map, option_and_then, slice_get, refl, sym, ap, ◌∙◌, subst, inl, inr}
use Rattle.std.proofs.lemmas.Option.{same_Some}
use Rattle.logos_graph.specs.Graph.{GraphState, next_by, walk}
use Rattle.logos_evidence.specs.search.Covering.{Takes, AreCovering, step_to, end_at}
use Rattle.logos_evidence.specs.declared.search.point.Point.{Point}
use Rattle.logos_evidence.proofs.search.StepLemmas.{not_end, same_points, same_end, takes_here, takes_later}
use Rattle.logos_evidence.specs.Covering.{AreCoveringInputs}
use Rattle.logos_evidence.specs.inside.Machines.{point_from, edge_next, edge_goal}

module _ (graph : List GraphState) where
  abbrev Next : Point → ℕ → Option Point
  Next = edge_next graph

  -- an edge that the bytes pass on their way from a state
  abbrev Passed : ℕ → List ℕ → ℕ → ℕ → Type 0
  Passed s bytes from to =
      (count b : ℕ) × (walk graph s (take count bytes) false ≡ Some from) × (slice_get bytes count ≡ Some b) × (next_by graph from b ≡ Some to)

  passed_here : (s c : ℕ) (bytes : List ℕ) (from to b : ℕ) → s ≡ from → c ≡ b → next_by graph from b ≡ Some to → Takes Next (point_from s) (c ∷ bytes) (step_to (point_from from) (point_from to))
  passed_here s c bytes from to b e f leads =
      subst (λ (p : ℕ). Takes Next (point_from p) (c ∷ bytes) (step_to (point_from from) (point_from to))) (sym e)
      (subst (λ (x : ℕ). Takes Next (point_from from) (x ∷ bytes) (step_to (point_from from) (point_from to))) (sym f)
      (takes_here Next (point_from from) (point_from to) b bytes (ap (option_map point_from) leads)))

  passed_takes : (bytes : List ℕ) (count s from to b : ℕ) → walk graph s (take count bytes) false ≡ Some from → slice_get bytes count ≡ Some b →
      next_by graph from b ≡ Some to → Takes Next (point_from s) bytes (step_to (point_from from) (point_from to))
  passed_takes [] count s from to b way reads leads = cc
  passed_takes (c ∷ bytes) zero s from to b way reads leads = passed_here s c bytes from to b (same_Some _ _ way) (same_Some _ _ reads) leads
  passed_takes (c ∷ bytes) (suc count) s from to b way reads leads = go (λ n e. passed_takes bytes count n from to b e reads leads) (next_by graph s c) refl way
    where
      go : ((n : ℕ) → walk graph n (take count bytes) false ≡ Some from → Takes Next (point_from n) bytes (step_to (point_from from) (point_from to))) → (o : Option ℕ) → next_by graph s c ≡ o →
          option_and_then (λ n. walk graph n (take count bytes) false) o ≡ Some from → Takes Next (point_from s) (c ∷ bytes) (step_to (point_from from) (point_from to))
      go ih None is e = cc
      go ih (Some n) is e = takes_later Next (point_from s) (point_from n) c bytes (step_to (point_from from) (point_from to)) (ap (option_map point_from) is) (ih n e)

  takes_passed : (bytes : List ℕ) (s from to : ℕ) → Takes Next (point_from s) bytes (step_to (point_from from) (point_from to)) → Passed s bytes from to
  takes_passed [] s from to t = absurd (not_end (point_from from) (point_from to) (point_from s) t)
  takes_passed (c ∷ bytes) s from to t = go (λ n. takes_passed bytes n from to) (next_by graph s c) refl t
    where
      go : ((n : ℕ) → Takes Next (point_from n) bytes (step_to (point_from from) (point_from to)) → Passed n bytes from to) → (o : Option ℕ) → next_by graph s c ≡ o →
          IsSomeAnd (option_map point_from o) (λ q. (step_to (point_from from) (point_from to) ≡ step_to (point_from s) q) ⊎ Takes Next q bytes (step_to (point_from from) (point_from to))) → Passed s (c ∷ bytes) from to
      go ih None is h = absurd h
      go ih (Some n) is (inl same) =
          let points = same_points (point_from from) (point_from to) (point_from s) (point_from n) same in
          let from_is : from ≡ s = ap (λ (p : Point). p.here) points.0 in
          let to_is : to ≡ n = ap (λ (p : Point). p.here) points.1 in
          (0, c, ap Some (sym from_is), refl, subst (λ (p : ℕ). next_by graph p c ≡ Some to) (sym from_is) (is ∙ ap Some (sym to_is)))
      go ih (Some n) is (inr h) =
          let rest = ih n h in
          (suc rest.0, rest.1, ap (option_and_then (λ (k : ℕ). walk graph k (take rest.0 bytes) false)) is ∙ rest.2, rest.3, rest.4)

  walk_takes : (bytes : List ℕ) (s from : ℕ) → walk graph s bytes false ≡ Some from → Takes Next (point_from s) bytes (end_at (point_from from))
  walk_takes [] s from e = ap (λ (n : ℕ). end_at (point_from n)) (sym (same_Some _ _ e))
  walk_takes (c ∷ bytes) s from e = go (λ n. walk_takes bytes n from) (next_by graph s c) refl e
    where
      go : ((n : ℕ) → walk graph n bytes false ≡ Some from → Takes Next (point_from n) bytes (end_at (point_from from))) → (o : Option ℕ) → next_by graph s c ≡ o →
          option_and_then (λ n. walk graph n bytes false) o ≡ Some from → Takes Next (point_from s) (c ∷ bytes) (end_at (point_from from))
      go ih None is e = cc
      go ih (Some n) is e = takes_later Next (point_from s) (point_from n) c bytes (end_at (point_from from)) (ap (option_map point_from) is) (ih n e)

  takes_walk : (bytes : List ℕ) (s from : ℕ) → Takes Next (point_from s) bytes (end_at (point_from from)) → walk graph s bytes false ≡ Some from
  takes_walk [] s from t = ap (λ (p : Point). Some p.here) (sym (same_end (point_from from) (point_from s) t))
  takes_walk (c ∷ bytes) s from t = go (λ n. takes_walk bytes n from) (next_by graph s c) refl t
    where
      go : ((n : ℕ) → Takes Next (point_from n) bytes (end_at (point_from from)) → walk graph n bytes false ≡ Some from) → (o : Option ℕ) → next_by graph s c ≡ o →
          IsSomeAnd (option_map point_from o) (λ q. (end_at (point_from from) ≡ step_to (point_from s) q) ⊎ Takes Next q bytes (end_at (point_from from))) →
          walk graph s (c ∷ bytes) false ≡ Some from
      go ih None is h = absurd h
      go ih (Some n) is (inl same) = absurd (not_end (point_from s) (point_from n) (point_from from) (sym same))
      go ih (Some n) is (inr h) = ap (option_and_then (λ (k : ℕ). walk graph k bytes false)) is ∙ ih n h

  covers : (utf8 : Bool) (inputs : List (List ℕ)) → AreCovering Next (edge_goal graph) utf8 (point_from 0) inputs → AreCoveringInputs graph utf8 inputs
  covers utf8 inputs made = record {
    are_inputs = made.are_inputs;
    edges = λ bytes from to input passes.
        let one = made.all bytes (step_to (point_from from) (point_from to)) input (passed_takes bytes passes.count 0 from to passes.byte passes.way passes.reads passes.leads) (λ t. cc) in
        let passed = takes_passed one.0 0 from to one.2 in
        (one.0, one.1, record { count = passed.0; byte = passed.1; way = passed.2; reads = passed.3; leads = passed.4 });
    ends = λ bytes from to input passes.
        let one = made.all bytes (end_at (point_from from)) input (walk_takes bytes 0 from passes.way) (λ t. ap is_some passes.leads) in
        (one.0, one.1, record { way = takes_walk one.0 0 from one.2; leads = passes.leads });
  }

-- the answer of the search as that of the call
pub covering_is : (graph states : List GraphState) (mode utf8 : Bool) (start : Point) (inputs : List (List ℕ)) → states ≡ graph → utf8 ≡ mode → start ≡ point_from 0 →
    AreCovering (edge_next states) (edge_goal states) utf8 start inputs → AreCoveringInputs graph mode inputs
covering_is graph states mode utf8 start inputs e f g h =
    covers graph mode inputs
    (subst (λ (p : Point). AreCovering (edge_next graph) (edge_goal graph) mode p inputs) g
    (subst (λ (m : Bool). AreCovering (edge_next graph) (edge_goal graph) m start inputs) f
    (subst (λ (s : List GraphState). AreCovering (edge_next s) (edge_goal s) utf8 start inputs) e h)))

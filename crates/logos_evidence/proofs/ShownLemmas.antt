-- The states of a graph that are held by reference.
use Rattle.std.proofs.Common.{◌≡◌, ℕ, zero, suc, ◌+◌, ◌<◌, List, [], ◌∷◌, ◌++◌, Some, length, take, get_or, slice_get, option_map, sym, ap, ◌∙◌, arith}
use Rattle.std.proofs.lemmas.List.{map-append}
use Rattle.std.proofs.lemmas.Option.{same_Some, slice_get-map, slice_get-get_or}
use denote.Ref.{Bor}
use Rattle.logos_graph.specs.Graph.{GraphState}
use Rattle.logos_graph.specs.GraphView.{graph_state_of}
use Rattle.logos_graph.specs.declared.graph.StateData.{StateData}
use Rattle.logos_evidence.specs.inside.Shown.{shown}

take_next : {A : Type 0} (xs : List A) (n : ℕ) (y : A) → slice_get xs n ≡ Some y → take n xs ++ y ∷ [] ≡ take (suc n) xs
take_next [] n y e = cc
take_next (x ∷ xs) zero y e = ap (λ z. z ∷ []) (sym (same_Some _ _ e))
take_next (x ∷ xs) (suc n) y e = ap (λ zs. x ∷ zs) (take_next xs n y e)

pub shown_more : (states : List GraphState) (held more : List (Bor StateData)) (x : Bor StateData) (n : ℕ) → more ≡ held ++ x ∷ [] → shown held ≡ take n states →
    slice_get states n ≡ Some (graph_state_of x.now) → shown more ≡ take (n + 1) states
shown_more states held more x n e h at =
    let next : suc n ≡ n + 1 = omega arith in
    ap shown e ∙ map-append (λ (state : Bor StateData). graph_state_of state.now) held (x ∷ []) ∙ ap (λ (xs : List GraphState). xs ++ graph_state_of x.now ∷ []) h ∙
    take_next states n (graph_state_of x.now) at ∙ ap (λ (m : ℕ). take m states) next

pub shown_at : (states : List (Bor StateData)) (i : ℕ) (x : Bor StateData) → i < length states → ((d : Bor StateData) → x ≡ get_or states i d) → slice_get (shown states) i ≡ Some (graph_state_of x.now)
shown_at states i x l h =
    let f = λ (state : Bor StateData). graph_state_of state.now in
    slice_get-map f states i ∙ ap (option_map f) (slice_get-get_or states i x l ∙ ap Some (sym (h x)))

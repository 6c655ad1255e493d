-- Texts that loops make, part by part.
use Rattle.std.proofs.Common.{◌≡◌, ℕ, ◌+◌, ◌<◌, ◌≤◌, List, ◌∷◌, ◌++◌, length, map, drop, get_or, drop-cons, add-one, append-nil, append_assoc, refl, sym, ◌∙◌, ap}
use Rattle.std.proofs.Math.ListN.{drop_of_length-le}
use Rattle.std.specs.List.{flat_map}
use Rattle.logos_graph.specs.Graph.{GraphState}
use Rattle.logos_graph.specs.GraphView.{graph_state_of}
use Rattle.logos_graph.specs.Mermaid.{state_lines, lines_from}
use Rattle.logos_graph.specs.declared.graph.StateData.{StateData}

-- the rest of a list begins with its next element
rest_front : {A B : Type 0} (f : A → B) (xs : List A) (i : ℕ) (d : A) → i < length xs → map f (drop i xs) ≡ f (get_or xs i d) ∷ map f (drop (i + 1) xs)
rest_front f xs i d l = rw (add-one, drop-cons xs i d) refl

-- the part of an element is added
part_added : (whole old new part rest : List ℕ) → new ≡ old ++ part → old ++ (part ++ rest) ≡ whole → new ++ rest ≡ whole
part_added whole old new part rest e all = ap (λ text. text ++ rest) e ∙ append_assoc old part rest ∙ all

pub next_added : {A B : Type 0} (f : A → B) (g : B → List ℕ) (xs : List A) (i : ℕ) (d : A) (whole old new : List ℕ) → i < length xs →
    new ≡ old ++ g (f (get_or xs i d)) → old ++ flat_map g (map f (drop i xs)) ≡ whole → new ++ flat_map g (map f (drop (i + 1) xs)) ≡ whole
next_added f g xs i d whole old new l e all =
    part_added whole old new (g (f (get_or xs i d))) (flat_map g (map f (drop (i + 1) xs))) e
    (ap (λ rest. old ++ flat_map g rest) (sym (rest_front f xs i d l)) ∙ all)

pub item_added : {A B : Type 0} (f : A → B) (g : B → List ℕ) (xs : List A) (i : ℕ) (x : A) (whole old new : List ℕ) → i < length xs → x ≡ get_or xs i x →
    new ≡ old ++ g (f x) → old ++ flat_map g (map f (drop i xs)) ≡ whole → new ++ flat_map g (map f (drop (i + 1) xs)) ≡ whole
item_added f g xs i x whole old new l is e all = next_added f g xs i x whole old new l (e ∙ ap (λ y. old ++ g (f y)) is) all

pub all_added : {A B : Type 0} (f : A → B) (g : B → List ℕ) (xs : List A) (i : ℕ) (whole text : List ℕ) → length xs ≤ i → text ++ flat_map g (map f (drop i xs)) ≡ whole → text ≡ whole
all_added f g xs i whole text l all = sym (append-nil text) ∙ ap (λ rest. text ++ flat_map g (map f rest)) (sym (drop_of_length-le xs l)) ∙ all

-- the lemma above for the states of a diagram
pub state_added : (states : List StateData) (s : ℕ) (state : StateData) (whole old new : List ℕ) → s < length states → state ≡ get_or states s state →
    new ≡ old ++ state_lines s (graph_state_of state) → old ++ lines_from s (map graph_state_of (drop s states)) ≡ whole →
    new ++ lines_from (s + 1) (map graph_state_of (drop (s + 1) states)) ≡ whole
state_added states s state whole old new l is e all =
    part_added whole old new (state_lines s (graph_state_of state)) (lines_from (s + 1) (map graph_state_of (drop (s + 1) states))) e
    (ap (λ (x : StateData). old ++ (state_lines s (graph_state_of x) ++ lines_from (s + 1) (map graph_state_of (drop (s + 1) states)))) is
    ∙ ap (λ (rest : List GraphState). old ++ lines_from s rest) (sym (rest_front graph_state_of states s state l)) ∙ all)

pub states_added : (states : List StateData) (s : ℕ) (whole text : List ℕ) → length states ≤ s → text ++ lines_from s (map graph_state_of (drop s states)) ≡ whole → text ≡ whole
states_added states s whole text l all =
    sym (append-nil text) ∙ ap (λ (rest : List StateData). text ++ lines_from s (map graph_state_of rest)) (sym (drop_of_length-le states l)) ∙ all

-- Inputs that together take all edges of a graph.
use Rattle.std.specs.Prelude.{◌≡◌, ℕ, Bool, false, List, Contains, Some, slice_get, take}
use Rattle.logos_automaton.specs.Munch.{IsInput}
use Rattle.logos_graph.specs.Graph.{GraphState, next_by, next_at_end, walk}

module _ (graph : List GraphState) where
  -- On its way from the root an input takes the edge from one state to another: after `count` bytes
  -- it is at the state `from`, and the next byte leads to the state `to`.
  pub record PassesEdge (bytes : List ℕ) (from to : ℕ) : Type 0 where
    pub count : ℕ
    pub byte : ℕ
    pub way : walk graph 0 (take count bytes) false ≡ Some from
    pub reads : slice_get bytes count ≡ Some byte
    pub leads : next_by graph from byte ≡ Some to

  -- The input ends at the state `from`, and its end leads to the state `to`.
  pub record PassesEnd (bytes : List ℕ) (from to : ℕ) : Type 0 where
    pub way : walk graph 0 bytes false ≡ Some from
    pub leads : next_at_end graph from ≡ Some to

  -- These inputs take each edge that any input takes.
  pub record AreCoveringInputs (utf8 : Bool) (inputs : List (List ℕ)) : Type 0 where
    pub are_inputs : (input : List ℕ) → Contains inputs input → IsInput utf8 input
    pub edges : (bytes : List ℕ) (from to : ℕ) → IsInput utf8 bytes → PassesEdge bytes from to →
        (input : List ℕ) × Contains inputs input × PassesEdge input from to
    pub ends : (bytes : List ℕ) (from to : ℕ) → IsInput utf8 bytes → PassesEnd bytes from to →
        (input : List ℕ) × Contains inputs input × PassesEnd input from to

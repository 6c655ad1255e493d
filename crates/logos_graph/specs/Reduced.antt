-- The properties of a finished graph besides the results of its match attempts.
use Rattle.std.specs.Prelude.{◌≡◌, ◌≢◌, ℕ, ◌<◌, ◌≤◌, ◌↔◌, ◌⊎◌, Bool, false, List, [], ◌∷◌, ◌++◌, map, length, Some, IsSomeAnd, slice_get}
use Rattle.std.specs.List.Sorted.{IsStrictlyIncreasing}
use Rattle.std.specs.List.{All}
use Rattle.logos_hir.specs.Text.{IsBytes}
use Rattle.logos_automaton.specs.Munch.{Rule, IsFirst}
use Rattle.logos_graph.specs.Graph.{GraphState, walk, next_by, next_at_end, type_after}
use Rattle.logos_reduce.specs.Edges.{StateType, IsMarked}

-- The leaf is the one that matches all the bytes, regardless of the byte that follows and also at
-- the end.
pub record IsSettled (rules : List Rule) (bytes : List ℕ) (leaf : ℕ) : Type 0 where
  pub before : (b : ℕ) → b < 256 → IsFirst rules (bytes ++ b ∷ []) 0 (length bytes) leaf
  pub at_end : IsFirst rules bytes 0 (length bytes) leaf

-- The state has this type.
abbrev pub HasType : List GraphState → ℕ → (StateType → Type 0) → Type 0
HasType graph s P = IsSomeAnd (slice_get graph s) (λ state. P state.state_type)

-- An edge with the label: a byte, or 256 for the end.
abbrev pub HasEdge : List GraphState → ℕ → ℕ → ℕ → Type 0
HasEdge graph s label t = ((label < 256) × (next_by graph s label ≡ Some t)) ⊎ ((label ≡ 256) × (next_at_end graph s ≡ Some t))

-- The first edge into a state, by source number, then bytes ascending, then the end.
pub record IsFirstEdge (graph : List GraphState) (t s label : ℕ) : Type 0 where
  pub edge : HasEdge graph s label t
  pub first : (other at : ℕ) → HasEdge graph other at t → (s < other) ⊎ ((s ≡ other) × (label ≤ at))

-- The marks, the edges and the numbers of a finished graph.
pub record IsReduced (rules : List Rule) (graph : List GraphState) : Type 0 where
  -- A state reached by bytes alone has an early mark for the leaf that is settled there, and for no
  -- other leaf.
  pub early : (bytes : List ℕ) (s leaf : ℕ) → IsBytes bytes → walk graph 0 bytes false ≡ Some s →
      HasType graph s (λ type. (type.early ≡ Some leaf) ↔ IsSettled rules bytes leaf)
  -- Each state but the root has a mark or leads to one.
  pub useful : (s : ℕ) → 0 < s → s < length graph → (bytes : List ℕ) × (ends : Bool) × IsBytes bytes × IsSomeAnd (type_after graph s bytes ends) IsMarked
  -- A late mark is needed on some path to its state.
  pub late : (t leaf : ℕ) → HasType graph t (λ type. type.accept ≡ Some leaf) →
      (s label : ℕ) × HasEdge graph s label t × HasType graph s (λ type. type.early ≢ Some leaf)
  -- No two states are equal.
  pub distinct : (s t : ℕ) → s < length graph → slice_get graph s ≡ slice_get graph t → s ≡ t
  -- The first edges into the states 1, 2, 3 and so on come in this order, each from a state with a
  -- lower number.
  pub numbered : (t : ℕ) → 0 < t → t < length graph → (s label : ℕ) × (s < t) × IsFirstEdge graph t s label
  pub ordered : (t u s label r at : ℕ) → 0 < t → t < u → IsFirstEdge graph t s label → IsFirstEdge graph u r at → (s < r) ⊎ ((s ≡ r) × (label < at))
  -- The edges on bytes are in the order of their targets, and no two have the same target.
  pub by_target : All (λ state. IsStrictlyIncreasing (map (λ edge. edge.1) state.normal)) graph

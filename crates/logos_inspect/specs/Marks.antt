-- The leaves that the states of a graph mark. A match of a leaf ends at a state that marks it, or
-- one byte before.
use Rattle.std.specs.Prelude.{◌≡◌, ◌<◌, ◌⊎◌, ◌↔◌, ℕ, Bool, false, IsTrue, List, [], length, slice_get, slice_index_or, Some}
use Rattle.logos_automaton.specs.Munch.{Rule, IsInput, Finds, matched}
use Rattle.logos_graph.specs.Graph.{GraphState}
use Rattle.logos_graph.specs.GraphOf.{IsGraphOf}
use Rattle.logos_graph.specs.View.{GraphValue, rules_of}
use Rattle.logos_reduce.specs.Edges.{StateType}

-- A state type marks a leaf.
abbrev pub Marks : StateType → ℕ → Type 0
Marks type leaf = (type.accept ≡ Some leaf) ⊎ (type.early ≡ Some leaf)

-- One of the first `count` states marks a leaf.
pub record IsMarkedBelow (states : List GraphState) (count leaf : ℕ) : Type 0 where
  pub number : ℕ
  pub below : number < count
  pub state : GraphState
  pub occurs : slice_get states number ≡ Some state
  pub marks : Marks state.state_type leaf

-- A state marks a leaf.
abbrev pub IsMarked : List GraphState → ℕ → Type 0
IsMarked states leaf = IsMarkedBelow states (length states) leaf

-- A flag is set for a leaf.
abbrev pub IsSet : List Bool → ℕ → Type 0
IsSet flags leaf = IsTrue (slice_index_or flags leaf false)

-- Maximal munch finds no match of a leaf, from any point of any input.
abbrev pub IsNeverFound : List Rule → Bool → ℕ → Type 0
IsNeverFound rules utf8 leaf = (bytes : List ℕ) (from to : ℕ) → IsInput utf8 bytes → ¬ Finds rules utf8 bytes from (matched leaf to)

-- These flags, one for each leaf of a graph, are set for the leaves that it marks.
pub record AreMarks (graph : GraphValue) (flags : List Bool) : Type 0 where
  pub count : length flags ≡ length graph.leaves
  pub marked : (leaf : ℕ) → leaf < length graph.leaves → IsSet flags leaf ↔ IsMarked graph.states leaf
  -- A leaf that a graph without faults does not mark is never found.
  pub never : IsGraphOf graph.leaves graph.utf8 graph → graph.faults ≡ [] →
      (leaf : ℕ) → leaf < length graph.leaves → ¬ IsSet flags leaf → IsNeverFound (rules_of graph.leaves) graph.utf8 leaf

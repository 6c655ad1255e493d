-- The states of a graph that lead to a state.
use Rattle.std.specs.Prelude.{◌≡◌, ◌↔◌, ◌⊎◌, ℕ, ◌<◌, List, Some, Contains, map, slice_get}
use Rattle.std.specs.List.Sorted.{IsStrictlyIncreasing}
use Rattle.logos_graph.specs.Graph.{GraphState, next_by, next_at_end}
use Rattle.logos_graph.specs.GraphView.{graph_state_of, state_number}
use Rattle.logos_graph.specs.declared.graph.StateData.{StateData}

-- A byte or the end leads from `r` to `s`.
abbrev pub LeadsTo : List GraphState → ℕ → ℕ → Type 0
LeadsTo graph r s = ((b : ℕ) × (b < 256) × (next_by graph r b ≡ Some s)) ⊎ (next_at_end graph r ≡ Some s)

-- `numbers` are the numbers of the states that lead to `s`, ascending and without duplicates.
pub record AreBackward (graph : List GraphState) (s : ℕ) (numbers : List ℕ) : Type 0 where
  pub ascending : IsStrictlyIncreasing numbers
  pub exactly : (r : ℕ) → Contains numbers r ↔ LeadsTo graph r s

-- Each state has the numbers of the states that lead to it.
pub record HaveBackward (states : List StateData) : Type 0 where
  pub each : (s : ℕ) (state : StateData) → slice_get states s ≡ Some state → AreBackward (map graph_state_of states) s (map state_number state.backward.items)

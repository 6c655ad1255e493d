-- The views of the states of a graph in contracts.
use Rattle.std.specs.Prelude.{ℕ, List, map, option_map}
use Rattle.logos_hir.specs.declared.leaf.LeafId.{LeafId}
use Rattle.logos_reduce.specs.Edges.{StateType}
use Rattle.logos_graph.specs.Graph.{GraphState}
use Rattle.logos_byte_class.specs.Bytes.{ranges_of}
use Rattle.logos_byte_class.specs.declared.byte_class.ByteClass.{ByteClass}
use Rattle.logos_graph.specs.declared.graph.State.{State}
use Rattle.logos_graph.specs.declared.graph.StateType.{StateType as TheStateType}
use Rattle.logos_graph.specs.declared.graph.StateData.{StateData}

-- The number of a leaf.
abbrev pub leaf_number : LeafId → ℕ
leaf_number leaf = leaf.0

-- The number of a state.
abbrev pub state_number : State → ℕ
state_number state = state.0

-- The type of a state that a value represents.
abbrev pub state_type_of : TheStateType → StateType
state_type_of type = record { accept = option_map leaf_number type.accept; early = option_map leaf_number type.early }

-- The ranges of the bytes that lead to a state, and the state.
abbrev pub edge_of : ByteClass × State → List (ℕ × ℕ) × ℕ
edge_of edge = (ranges_of edge.0, state_number edge.1)

-- The marks and the edges of a state.
abbrev pub graph_state_of : StateData → GraphState
graph_state_of state = record {
  state_type = state_type_of state.state_type;
  normal = map edge_of state.normal.items;
  eoi = option_map state_number state.eoi;
}

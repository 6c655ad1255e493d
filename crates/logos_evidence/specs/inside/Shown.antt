-- The view of the states of a graph that are held by reference.
use Rattle.std.specs.Prelude.{List, map}
use denote.Ref.{Bor}
use Rattle.logos_graph.specs.Graph.{GraphState}
use Rattle.logos_graph.specs.GraphView.{graph_state_of}
use Rattle.logos_graph.specs.declared.graph.StateData.{StateData}

abbrev pub shown : List (Bor StateData) → List GraphState
shown = map (λ state. graph_state_of state.now)

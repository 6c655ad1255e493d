-- A graph and the invariant of its fields in contracts.
use Rattle.std.specs.Prelude.{◌≡◌, ◌≢◌, [], map, length, IsSome, IfSome}
use Rattle.logos_automaton.specs.DfaView.{dfa_of}
use Rattle.logos_automaton.specs.Errors.{fault_of}
use Rattle.logos_graph.specs.Backward.{HaveBackward}
use Rattle.logos_graph.specs.FinishedGraph.{IsFinished}
use Rattle.logos_graph.specs.GraphView.{graph_state_of}
use Rattle.logos_graph.specs.ReduceShown.{Shows}
use Rattle.logos_reduce.specs.History.{YieldsEvidence}
use Rattle.logos_graph.specs.View.{GraphValue}
use Rattle.logos_graph.specs.declared.graph.value.Graph.TheInside.{Inside}

-- The graph that a value represents.
abbrev pub value_of : Inside → GraphValue
value_of graph = record {
  leaves = graph.leaves.items;
  utf8 = graph.config.utf8_mode;
  faults = map fault_of graph.errors.items;
  states = map graph_state_of graph.states.items;
  automaton = dfa_of graph.dfa;
}

-- Without faults there is a finished graph, with the table that it represents; with faults there
-- are no states. Each state has the states that lead to it.
pub record IsConsistent (graph : Inside) : Type 0 where
  pub shown : IfSome graph.reduced (λ reduced. Shows reduced.table (value_of graph).states × YieldsEvidence reduced)
  pub has_table : (value_of graph).faults ≡ [] → IsSome graph.reduced
  pub finished : (value_of graph).faults ≡ [] → IsFinished (value_of graph).states (length (value_of graph).leaves)
  pub backward : HaveBackward graph.states.items
  pub bare : (value_of graph).faults ≢ [] → (value_of graph).states ≡ []

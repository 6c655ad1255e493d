-- The nodes that a generator makes one by one.
use Rattle.std.specs.Prelude.{◌≡◌, ℕ, Bool, List, ◌∷◌, [], Option, Some, option_map, slice_get}
use Rattle.logos_graph.specs.Graph.{GraphState}
use Rattle.logos_graph.specs.GraphView.{graph_state_of, state_number}
use Rattle.logos_graph.specs.declared.graph.State.{State}
use Rattle.logos_graph.specs.declared.graph.StateData.{StateData}
use Rattle.logos_code.specs.CodeView.{fork_of}
use Rattle.logos_generator.specs.GeneratorValue.{GeneratorValue}
use Rattle.logos_generator.specs.Nodes.{Extends, IsForkOf, IsLoopOf, IsTest, left_out}
use Rattle.logos_generator.specs.Numbering.{numbered, loop_uses, fork_uses, with_tables, fork_tables}
use Rattle.logos_code.specs.declared.code.Fork.{Fork}
use Rattle.logos_generator.specs.declared.generator.nodes.FastLoop.{FastLoop}

-- The generator has the same arguments, and its tests and jump tables keep their numbers.
pub record Continues (old new : GeneratorValue) : Type 0 where
  pub given : new.given ≡ old.given
  pub graph : new.graph ≡ old.graph
  pub tests : Extends old.tests new.tests
  pub jumps : Extends old.jumps new.jumps

-- The fork of a state with this data, with or without the edge back to it.
pub record MakesFork (old new : GeneratorValue) (state : State) (state_data : StateData) (ignore_self : Bool) (made : Fork) : Type 0 where
  pub is : IsForkOf new.tests (left_out ignore_self (state_number state)) (graph_state_of state_data).normal (fork_of new.jumps made)
  pub numbers : new.tests ≡ numbered old.tests (fork_uses (left_out ignore_self (state_number state)) (graph_state_of state_data).normal)
  pub jumps : new.jumps ≡ with_tables old.jumps (fork_tables (left_out ignore_self (state_number state)) (graph_state_of state_data).normal)

-- The fast loop of a state of the graph, if an edge leads back to it.
pub record MakesLoop (old new : GeneratorValue) (state : State) (made : Option FastLoop) : Type 0 where
  pub is : (at : GraphState) → slice_get old.graph.states (state_number state) ≡ Some at → IsLoopOf new.tests (state_number state) at.normal (option_map (λ node. node.test) made)
  pub numbers : (at : GraphState) → slice_get old.graph.states (state_number state) ≡ Some at → new.tests ≡ numbered old.tests (loop_uses (state_number state) at.normal)
  pub jumps : new.jumps ≡ old.jumps

-- The fast loop over these bytes.
pub record MakesLoopOver (old new : GeneratorValue) (ranges : List (ℕ × ℕ)) (made : FastLoop) : Type 0 where
  pub is : IsTest new.tests ranges made.test
  pub numbers : new.tests ≡ numbered old.tests (ranges ∷ [])
  pub jumps : new.jumps ≡ old.jumps

-- The views of the states that a generator reads and makes in contracts.
use Rattle.std.specs.Prelude.{◌≡◌, ℕ, ◌<◌, ◌≤◌, ◌*◌, ◌==◌, ◌++◌, ◌∷◌, [], Bool, List, length, IsSomeAnd, Some, slice_get, MatchBool}
use Rattle.std.specs.List.{All}
use Rattle.logos_pattern.specs.declared.leaf.Leaf.{Leaf}
use Rattle.logos_graph.specs.Graph.{GraphState}
use Rattle.logos_automaton.specs.Munch.{Use}
use Rattle.logos_graph.specs.View.{rule_of}
use Rattle.logos_byte_class.specs.Bytes.{AreSeparated}
use Rattle.logos_graph.specs.GraphView.{edge_of, state_number}
use Rattle.logos_byte_class.specs.declared.byte_class.ByteClass.{ByteClass}
use Rattle.logos_graph.specs.declared.graph.State.{State}
use Rattle.logos_code.specs.declared.code.Condition.{Condition as TheCondition}
use Rattle.logos_code.specs.declared.code.CodeState.{CodeState as TheState}
use Rattle.logos_code.specs.CodeView.{branch_of, state_of, AreDifferent}
use Rattle.logos_code.specs.Bytes.{passes_test}
use Rattle.logos_generator.specs.Numbering.{tests_of, bit_tables_of, jump_tables_of}
use Rattle.logos_generator.specs.Nodes.{tests_byte, IsBranchOf, IsStateOf}

-- The use of the matches of a leaf.
abbrev pub leaf_use : Leaf → Use
leaf_use leaf = (rule_of leaf).use_of

-- A code state can be made from the edges of the state.
pub record IsCodable (state : GraphState) : Type 0 where
  pub separated : All (λ edge. AreSeparated edge.0) state.normal
  pub targets : All (λ edge. edge.1 < 4294967295) state.normal

-- The branch of an edge is appended, unless the edge leads back to `s`.
abbrev pub AddsBranch : List (List Bool) → ℕ → ByteClass × State → (old new : List (TheCondition × ℕ)) → Type 0
AddsBranch tests s edge old new = MatchBool (state_number edge.1 == s)
    (new ≡ old)
    ((branch : TheCondition × ℕ) × (new ≡ old ++ branch ∷ []) × IsBranchOf tests (edge_of edge) (branch_of branch))

-- The states of a code are made from those of the graph, one for each.
pub record AreStatesOf (tests : List (List Bool)) (jumps : List (List ℕ)) (graph : List GraphState) (states : List TheState) : Type 0 where
  pub count : length states ≡ length graph
  pub each : (s : ℕ) (state : GraphState) → slice_get graph s ≡ Some state → IsSomeAnd (slice_get states s) (λ made. IsStateOf tests s state (state_of jumps made))

-- The states of a code are made from those of the graph, with the graph's tests in the bit tables
-- and with its jump tables, no two of which are equal.
pub record AreTablesOf (graph : List GraphState) (states : List TheState) (bit_tables jump_tables : List (List ℕ)) : Type 0 where
  pub are : AreStatesOf (tests_of graph) jump_tables graph states
  pub hold : (k b : ℕ) → b < 256 → passes_test bit_tables k b ≡ tests_byte (tests_of graph) k b
  pub fit : length (tests_of graph) ≤ 8 * length bit_tables
  pub tables : bit_tables ≡ bit_tables_of (tests_of graph)
  pub jumps : jump_tables ≡ jump_tables_of graph
  pub once : AreDifferent jump_tables

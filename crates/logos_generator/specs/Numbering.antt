-- The tests that a code makes by bits, its jump tables, the numbers of both, and the nodes that
-- refer to them.
use Rattle.std.specs.Prelude.{◌≡◌, ℕ, zero, suc, ◌+◌, ◌*◌, Bool, ◌==◌, nat_le, List, [], ◌∷◌, ◌++◌, map, length, fold, find, Option, Some, None, option_map, IsSomeAnd, if◌then◌else◌, slice_get}
use Rattle.std.specs.Bool.{beq}
use Rattle.std.specs.Int.{div_ceil}
use Rattle.std.specs.List.{flat_map, range_with_len}
use Rattle.std.specs.Option.{option_to_list}
use Rattle.std.specs.Cmp.Lexicographic.{pointwise}
use Rattle.indexmap.specs.IndexSet.{insert_key}
use Rattle.logos_graph.specs.Graph.{GraphState}
use Rattle.logos_hir.specs.ByteRanges.{is_in}
use Rattle.logos_graph.specs.FinishedGraph.{Edge}
use Rattle.logos_byte_class.specs.Bytes.{joined}
use Rattle.logos_code.specs.Code.{CodeValue}
use Rattle.logos_generator.specs.Nodes.{cost, leads_beside, tests_byte, IsStateOf}

-- For each byte, whether it is in the ranges.
abbrev pub set_of : List (ℕ × ℕ) → List Bool
set_of ranges = map (is_in ranges) (range_with_len 0 256)

-- The tests after one more use: a set of bytes that has a number keeps it, and a new one receives
-- the next number.
abbrev pub with_use : List (List Bool) → List (ℕ × ℕ) → List (List Bool)
with_use tests ranges = insert_key (pointwise beq) tests (set_of ranges)

-- The tests after these uses, in order.
abbrev pub numbered : List (List Bool) → List (List (ℕ × ℕ)) → List (List Bool)
numbered tests uses = fold with_use tests uses

-- The fast loop of state `s` uses a test for the bytes of the edge back to it.
abbrev pub loop_uses : ℕ → List Edge → List (List (ℕ × ℕ))
loop_uses s edges = option_to_list (option_map (λ e. e.0) (find (λ e. e.1 == s) edges))

-- A condition uses a test if its comparisons cost more than two operations.
abbrev pub condition_uses : List (ℕ × ℕ) → List (List (ℕ × ℕ))
condition_uses ranges = if nat_le (cost (joined ranges)) 2 then [] else ranges ∷ []

-- An edge back to `s` has no condition, and uses no test.
abbrev pub branch_uses : ℕ → Edge → List (List (ℕ × ℕ))
branch_uses s edge = if edge.1 == s then [] else condition_uses edge.0

-- A fork of more than two edges is a jump table, and uses no test.
abbrev pub fork_uses : ℕ → List Edge → List (List (ℕ × ℕ))
fork_uses s edges = if nat_le (length edges) 2 then flat_map (branch_uses s) edges else []

-- A state uses the tests of its fast loop before those of its fork.
abbrev pub state_uses : ℕ → List Edge → List (List (ℕ × ℕ))
state_uses s edges = loop_uses s edges ++ fork_uses s edges

-- The tests that states use, ascending from number `s` on.
abbrev pub uses_from : ℕ → List GraphState → List (List (ℕ × ℕ))
uses_from s [] = []
uses_from s (state ∷ states) = state_uses s state.normal ++ uses_from (s + 1) states

-- The tests of a graph's code, by their numbers: numbered by first use, where equal ones share a
-- number.
abbrev pub tests_of : List GraphState → List (List Bool)
tests_of graph = numbered [] (uses_from 0 graph)

-- An entry of a jump table: the state to which a byte leads, or the number that represents none.
abbrev pub jump_entry : Option ℕ → ℕ
jump_entry None = 4294967295
jump_entry (Some target) = target

-- The jump table of a state's edges, without the edge back to `s`: an entry for each byte.
abbrev pub jump_table : ℕ → List Edge → List ℕ
jump_table s edges = map (λ b. jump_entry (leads_beside s edges b)) (range_with_len 0 256)

-- A fork of more than two edges uses one jump table, and any other fork uses none.
abbrev pub fork_tables : ℕ → List Edge → List (List ℕ)
fork_tables s edges = if nat_le (length edges) 2 then [] else jump_table s edges ∷ []

-- The jump tables after these uses: a table that has a number keeps it, and a new one receives the
-- next number.
abbrev pub with_tables : List (List ℕ) → List (List ℕ) → List (List ℕ)
with_tables tables uses = fold (insert_key (pointwise ◌==◌)) tables uses

-- The jump tables that the forks of states use, ascending from number `s` on.
abbrev pub tables_from : ℕ → List GraphState → List (List ℕ)
tables_from s [] = []
tables_from s (state ∷ states) = fork_tables s state.normal ++ tables_from (s + 1) states

-- The jump tables of a graph's code, by their numbers: numbered by first use, where equal ones
-- share a number.
abbrev pub jump_tables_of : List GraphState → List (List ℕ)
jump_tables_of graph = with_tables [] (tables_from 0 graph)

-- The results of this number of tests, from number `k` on, for a byte, as the bits of a number: the
-- first is the lowest.
abbrev pub bits_from : List (List Bool) → ℕ → ℕ → ℕ → ℕ
bits_from tests b k zero = 0
bits_from tests b k (suc n) = bits_from tests b (k + 1) n * 2 + (if tests_byte tests k b then 1 else 0)

-- Table `j`, with an entry for each byte, of the eight tests from number `8 j` on.
abbrev pub bit_table : List (List Bool) → ℕ → List ℕ
bit_table tests j = map (λ b. bits_from tests b (8 * j) 8) (range_with_len 0 256)

-- The bit tables of all tests.
abbrev pub bit_tables_of : List (List Bool) → List (List ℕ)
bit_tables_of tests = map (bit_table tests) (range_with_len 0 (div_ceil (length tests) 8))

-- The nodes of the code are those of the graph's states, one for each and in their order.
pub record HasNodesOf (graph : List GraphState) (code : CodeValue) : Type 0 where
  pub root : code.root ≡ 0
  pub count : length code.states ≡ length graph
  pub states : (s : ℕ) (state : GraphState) → slice_get graph s ≡ Some state → IsSomeAnd (slice_get code.states s) (IsStateOf (tests_of graph) s state)
  -- Test `k` is bit `k mod 8` of table `k / 8`.
  pub tables : code.bit_tables ≡ bit_tables_of (tests_of graph)
  -- The jump tables, each by its number.
  pub jumps : code.jump_tables ≡ jump_tables_of graph

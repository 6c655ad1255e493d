-- The graph that represents a table.
use Rattle.std.specs.Prelude.{◌≡◌, ◌<◌, ℕ, List, length, map, Some, option_map, slice_get}
use Rattle.std.specs.List.Sorted.{IsStrictlyIncreasing}
use Rattle.std.specs.List.{All}
use Rattle.logos_graph.specs.Graph.{GraphState, next_by, next_at_end}
use Rattle.logos_reduce.specs.Table.{size, to, mark, type_of}
use Rattle.logos_reduce.specs.declared.table.Table.{Table}

-- The graph has the states of the table, with their types and edges. The edges on bytes are in the
-- order of their targets.
pub record Shows (table : Table) (graph : List GraphState) : Type 0 where
  pub states : length graph ≡ size table
  pub types : (s : ℕ) → s < size table → option_map (λ state. state.state_type) (slice_get graph s) ≡ Some (type_of (mark table s))
  pub next : (s b : ℕ) → s < size table → b < 256 → next_by graph s b ≡ to table s b
  pub ends : (s : ℕ) → s < size table → next_at_end graph s ≡ to table s 256
  pub by_target : All (λ state. IsStrictlyIncreasing (map (λ edge. edge.1) state.normal)) graph

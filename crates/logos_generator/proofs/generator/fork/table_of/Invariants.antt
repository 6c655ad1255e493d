use Rattle.std.proofs.Common.{◌≡◌, ℕ, ◌<◌, slice_index, length, drop, map}
use Rattle.std.specs.Option.{option_or}
use Rattle.logos_code.specs.CodeView.{entry_of}
use Rattle.logos_graph.specs.GraphView.{edge_of}
use Rattle.logos_generator.specs.Nodes.{leads_beside}
use Rattle.logos_generator.proofs.generator.fork.table_of.Given as goal

-- the edges that are left complete the table
abbrev pub invariant-loop-edge : goal.invariant-loop-edge
invariant-loop-edge l = (length l.table ≡ 256) × ((k : ℕ) → k < 256 → option_or (entry_of (slice_index l.table k)) (leads_beside l.state (map edge_of (drop l.edge-index l.edges)) k) ≡ leads_beside l.state (map edge_of l.edges) k)

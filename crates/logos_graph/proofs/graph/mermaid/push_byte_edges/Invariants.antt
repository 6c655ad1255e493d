use Rattle.std.proofs.Common.{◌≡◌, ◌++◌, drop, map, string_bytes}
use Rattle.std.specs.List.{flat_map}
use Rattle.logos_graph.specs.GraphView.{edge_of}
use Rattle.logos_graph.specs.Mermaid.{byte_edge_lines}
use Rattle.logos_graph.proofs.graph.mermaid.push_byte_edges.Given as goal

abbrev pub invariant-loop-edge : goal.invariant-loop-edge
invariant-loop-edge l =
    string_bytes l.text ++ flat_map (byte_edge_lines l.from) (map edge_of (drop l.edge-index l.edges)) ≡ string_bytes l.initial.text ++ flat_map (byte_edge_lines l.from) (map edge_of l.edges)

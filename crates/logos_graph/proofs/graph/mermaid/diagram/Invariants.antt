use Rattle.std.proofs.Common.{◌≡◌, ◌++◌, drop, map, string_bytes}
use Rattle.logos_graph.specs.GraphView.{graph_state_of}
use Rattle.logos_graph.specs.Mermaid.{lines_from, mermaid_of}
use Rattle.logos_graph.proofs.graph.mermaid.diagram.Given as goal

abbrev pub invariant-loop-s : goal.invariant-loop-s
invariant-loop-s l = string_bytes l.text ++ lines_from l.s (map graph_state_of (drop l.s l.states)) ≡ mermaid_of (map graph_state_of l.states)

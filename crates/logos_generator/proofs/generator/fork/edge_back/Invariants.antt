use Rattle.std.proofs.Common.{◌≡◌, ◌==◌, drop, map, find}
use Rattle.logos_graph.specs.GraphView.{edge_of}
use Rattle.logos_generator.proofs.generator.fork.edge_back.Given as goal

-- the edges that are left decide
abbrev pub invariant-loop-edge : goal.invariant-loop-edge
invariant-loop-edge l = find (λ edge. edge.1 == l.state) (map edge_of (drop l.edge-index l.edges)) ≡ find (λ edge. edge.1 == l.state) (map edge_of l.edges)

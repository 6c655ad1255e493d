use Rattle.std.proofs.Common.{◌≡◌, drop, map}
use Rattle.std.specs.Prelude.{find}
use Rattle.logos_graph.specs.GraphView.{edge_of}
use Rattle.logos_hir.specs.ByteRanges.{is_in}
use Rattle.logos_evidence.proofs.graph_steps.target_of.Given as goal

-- the edges that are left decide
abbrev pub invariant-loop-edge : goal.invariant-loop-edge
invariant-loop-edge l =
    find (λ edge. is_in edge.0 l.byte) (map edge_of l.edges) ≡ find (λ edge. is_in edge.0 l.byte) (map edge_of (drop l.edge-index l.edges))

use Rattle.std.proofs.Common.{string_bytes, arith}
use Rattle.logos_graph.specs.GraphView.{edge_of}
use Rattle.logos_graph.specs.Mermaid.{byte_edge_lines}
use Rattle.logos_graph.proofs.DiagramLemmas.{item_added, all_added}
use Rattle.logos_graph.proofs.graph.mermaid.push_byte_edges.Goals as goal

pub loop-edge-preserved : goal.loop-edge-preserved
loop-edge-preserved c =
    item_added edge_of (byte_edge_lines c.args.from.now) c.args.edges.now c.loop-edge.edge-index c.edge-item.result _ (string_bytes c.loop-edge.text) (string_bytes c.push_byte_edge.new.text) (omega arith)
    c.edge-item.is c.in_ok-push_byte_edge.ensures c.loop-edge.invariant

pub returns : goal.returns
returns c = all_added edge_of (byte_edge_lines c.args.from.now) c.args.edges.now c.loop-edge.edge-index _ (string_bytes c.loop-edge.text) (omega arith) c.loop-edge.invariant

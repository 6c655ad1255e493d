use Rattle.std.proofs.Common.{◌∙◌, ap, map, option_map}
use Rattle.std.specs.Prelude.{find}
use Rattle.logos_graph.specs.GraphView.{edge_of}
use Rattle.logos_hir.specs.ByteRanges.{is_in}
use Rattle.logos_evidence.proofs.graph_steps.target_in.Goals as goal

pub returns : goal.returns
returns c = c.target_of.ensures ∙ ap (λ edges. option_map (λ edge. edge.1) (find (λ edge. is_in edge.0 c.args.byte) (map edge_of edges))) c.deref.ensures.value

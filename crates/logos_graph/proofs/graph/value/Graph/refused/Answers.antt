use Rattle.std.proofs.Common.{map, ap}
use Rattle.logos_graph.specs.GraphView.{graph_state_of}
use Rattle.logos_graph.proofs.BackwardLemmas.{none_backward}
use Rattle.logos_graph.proofs.graph.value.Graph.refused.Goals as goal

pub invariant_of-result : goal.invariant_of-result
invariant_of-result c = record {
  shown = tt;
  has_table = λ e. absurd (c.requires e);
  finished = λ e. absurd (c.requires e);
  backward = rw c.new.ensures.items none_backward;
  bare = λ n. ap (map graph_state_of) c.new.ensures.items;
}

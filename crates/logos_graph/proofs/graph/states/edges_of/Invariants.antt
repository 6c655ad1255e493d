use Rattle.std.proofs.Common.{◌≢◌, ◌-◌, ◌<◌, ◌≤◌, map}
use Rattle.logos_graph.specs.GraphView.{edge_of}
use Rattle.logos_reduce.specs.Rows.{target_by}
use Rattle.logos_graph.specs.inside.States.{AreEdgesOf}
use Rattle.logos_graph.proofs.graph.states.edges_of.Given as goal

abbrev pub invariant-loop-start : goal.invariant-loop-start
invariant-loop-start l = record {
  within : l.start ≤ 256;
  changes : 0 < l.start → l.start < 256 → target_by l.row l.start ≢ target_by l.row (l.start - 1);
  edges : AreEdgesOf (target_by l.row) l.start (map edge_of l.edges.items);
}

abbrev pub decreases-loop-start : goal.decreases-loop-start
decreases-loop-start l = 256 - l.start

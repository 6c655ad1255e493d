use Rattle.std.proofs.Common.{◌-◌, ℕ, ◌<◌, ◌≤◌, length, map, get_or}
use Rattle.logos_graph.specs.GraphView.{edge_of}
use Rattle.logos_graph.specs.inside.States.{targets}
use Rattle.logos_graph.proofs.graph.states.slot_of.Given as goal

abbrev pub invariant-loop-low : goal.invariant-loop-low
invariant-loop-low l = record {
  order : l.low ≤ l.high;
  within : l.high ≤ length l.edges;
  below : (k : ℕ) → k < l.low → get_or (targets (map edge_of l.edges)) k 0 < l.target;
  above : (k : ℕ) → l.high ≤ k → k < length l.edges → l.target ≤ get_or (targets (map edge_of l.edges)) k 0;
}

abbrev pub decreases-loop-low : goal.decreases-loop-low
decreases-loop-low l = l.high - l.low

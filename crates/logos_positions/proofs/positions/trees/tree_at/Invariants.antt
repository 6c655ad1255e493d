use Rattle.std.proofs.Common.{◌-◌, ◌<◌, ◌≤◌, length, slice_index}
use Rattle.logos_positions.proofs.positions.trees.tree_at.Given as goal

abbrev pub invariant-loop-low : goal.invariant-loop-low
invariant-loop-low l = record {
  after : l.from ≤ l.low;
  order : l.low < l.high;
  within : l.high < length l.starts;
  begins : slice_index l.starts l.low ≤ l.position;
  ends : l.position < slice_index l.starts l.high;
}

abbrev pub decreases-loop-low : goal.decreases-loop-low
decreases-loop-low l = l.high - l.low

use Rattle.std.proofs.Common.{◌-◌, ◌≤◌, IsTrue, drop, length, map, slice_index}
use Rattle.logos_positions.specs.Kinds.{test_at}
use Rattle.logos_positions.specs.Marks.{Has}
use Rattle.logos_positions.specs.Node.{core_of}
use Rattle.logos_positions.specs.Several.{OwesNumbers}
use Rattle.logos_positions.proofs.positions.trees.exits_all.Given as goal

abbrev pub invariant-loop-number : goal.invariant-loop-number
invariant-loop-number l = record {
  within : l.number ≤ length l.fn.forest.nodes.now;
  numbers : OwesNumbers (map core_of l.fn.forest.nodes.now) (map core_of (drop l.number l.fn.forest.nodes.now)) (test_at l.at) (Has l.marks) (IsTrue l.entered) (slice_index l.fn.forest.starts.now l.number) l.number l.left.items;
}

abbrev pub decreases-loop-number : goal.decreases-loop-number
decreases-loop-number l = length l.fn.forest.nodes.now - l.number

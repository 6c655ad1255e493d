use Rattle.std.proofs.Common.{◌≡◌, ◌+◌, ◌-◌, ◌≤◌, drop, length, map}
use Rattle.logos_positions.specs.Node.{core_of}
use Rattle.logos_positions.specs.Run.{width_of}
use Rattle.logos_positions.specs.Several.{AreFirstStarts}
use Rattle.logos_automaton.proofs.trees.starts_of.Given as goal

abbrev pub invariant-loop-number : goal.invariant-loop-number
invariant-loop-number l = record {
  within : l.number ≤ length l.nodes;
  placed : l.base + width_of (map core_of (drop l.number l.nodes)) ≡ width_of (map core_of l.nodes);
  starts : AreFirstStarts l.nodes l.starts.items l.number;
}

abbrev pub decreases-loop-number : goal.decreases-loop-number
decreases-loop-number l = length l.nodes - l.number

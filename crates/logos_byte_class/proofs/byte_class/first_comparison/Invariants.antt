use Rattle.std.proofs.Common.{◌≡◌, ◌-◌, ◌<◌, ◌≤◌, length, drop, map}
use Rattle.logos_byte_class.specs.Bytes.{bounds, joined}
use Rattle.logos_byte_class.proofs.JoinLemmas.{join_to}
use Rattle.logos_byte_class.proofs.byte_class.first_comparison.Given as goal

abbrev pub invariant-loop-next : goal.invariant-loop-next
invariant-loop-next l = record {
  some : 0 < l.next;
  within : l.next ≤ length l.ranges;
  shape : joined (map bounds l.ranges) ≡ join_to l.first l.last l.except.items (joined (map bounds (drop l.next l.ranges)));
}

abbrev pub decreases-loop-next : goal.decreases-loop-next
decreases-loop-next l = length l.ranges - l.next

use Rattle.std.proofs.Common.{◌≡◌, ◌-◌, ◌≤◌, ◌++◌, length, drop, map}
use Rattle.logos_byte_class.specs.Bytes.{bounds, comparison_of, joined}
use Rattle.logos_byte_class.proofs.byte_class.ByteClass.impl_with_cmp.Given as goal

abbrev pub invariant-loop-next : goal.invariant-loop-next
invariant-loop-next l = record {
  within : l.next ≤ length l.ranges;
  shape : map comparison_of l.made.items ++ joined (map bounds (drop l.next l.ranges)) ≡ joined (map bounds l.ranges);
}

abbrev pub decreases-loop-next : goal.decreases-loop-next
decreases-loop-next l = length l.ranges - l.next

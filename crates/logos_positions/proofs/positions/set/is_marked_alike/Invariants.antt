use Rattle.std.proofs.Common.{◌≡◌, ℕ, ◌+◌, ◌-◌, ◌<◌, ◌≤◌, length, slice_index}
use Rattle.logos_positions.proofs.positions.set.is_marked_alike.Given as goal

abbrev pub invariant-loop-i : goal.invariant-loop-i
invariant-loop-i l = record {
  few : l.i ≤ l.to - l.from;
  within : l.at + l.i ≤ length l.marks;
  same : (k : ℕ) → k < l.i → slice_index l.marks (l.at + k) ≡ slice_index l.marks (l.from + k) + l.shift;
}

abbrev pub decreases-loop-i : goal.decreases-loop-i
decreases-loop-i l = l.to - l.from - l.i

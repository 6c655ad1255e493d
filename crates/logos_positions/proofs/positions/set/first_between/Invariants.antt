use Rattle.std.proofs.Common.{◌-◌, ℕ, ◌<◌, ◌≤◌, length, get_or}
use Rattle.logos_positions.proofs.positions.set.first_between.Given as goal

abbrev pub invariant-loop-low : goal.invariant-loop-low
invariant-loop-low l = record {
  order : l.low ≤ l.high;
  within : l.high ≤ length l.marks;
  below : (k : ℕ) → k < l.low → get_or l.marks k 0 < l.position;
  above : (k : ℕ) → l.high ≤ k → k < length l.marks → l.position ≤ get_or l.marks k 0;
}

abbrev pub decreases-loop-low : goal.decreases-loop-low
decreases-loop-low l = l.high - l.low

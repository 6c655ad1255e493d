use Rattle.std.proofs.Common.{ℕ, ◌+◌, ◌<◌, ◌≤◌, ◌-◌, length, slice_index}
use Rattle.logos_causes.proofs.meetings.ascends.Given as goal

-- each number in front is below the next one
abbrev pub invariant-loop-at : goal.invariant-loop-at
invariant-loop-at l = record {
  begun : 1 ≤ l.at;
  ascend : (k : ℕ) → k + 1 < l.at → k + 1 < length l.set → slice_index l.set k < slice_index l.set (k + 1);
}

abbrev pub decreases-loop-at : goal.decreases-loop-at
decreases-loop-at l = length l.set - l.at

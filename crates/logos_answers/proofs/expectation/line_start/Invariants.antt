use Rattle.std.proofs.Common.{◌≡◌, ◌≢◌, ◌≤◌, ◌<◌, ℕ, slice_index}
use Rattle.logos_answers.proofs.expectation.line_start.Given as goal

-- LF does not occur between the start and the offset
abbrev pub invariant-loop-start : goal.invariant-loop-start
invariant-loop-start l = record {
  before : l.start ≤ l.at;
  one : (k : ℕ) → l.start ≤ k → k < l.at → slice_index l.text k ≢ 10;
}

abbrev pub decreases-loop-start : goal.decreases-loop-start
decreases-loop-start l = l.start

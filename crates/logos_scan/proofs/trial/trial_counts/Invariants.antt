use Rattle.std.proofs.Common.{◌-◌, ◌≤◌, length}
use Rattle.logos_scan.proofs.trial.trial_counts.Given as goal

abbrev pub invariant-loop-at : goal.invariant-loop-at
invariant-loop-at l = l.at ≤ length l.reading.input.now

abbrev pub decreases-loop-at : goal.decreases-loop-at
decreases-loop-at l = length l.reading.input.now - l.at

use Rattle.std.proofs.Common.{length, ◌-◌, ◌≤◌}
use Rattle.logos_answers.proofs.expectation.common_length.Given as goal

-- the offset stays in the first text
abbrev pub invariant-loop-at : goal.invariant-loop-at
invariant-loop-at l = l.at ≤ length l.one

abbrev pub decreases-loop-at : goal.decreases-loop-at
decreases-loop-at l = length l.one - l.at

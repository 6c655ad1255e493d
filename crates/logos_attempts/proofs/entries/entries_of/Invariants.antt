use Rattle.std.proofs.Common.{◌-◌, ◌≤◌, length}
use Rattle.logos_attempts.proofs.entries.entries_of.Given as goal

-- the counted bytes are in the input
abbrev pub invariant-loop-entries : goal.invariant-loop-entries
invariant-loop-entries l = l.end ≤ length l.input

-- proposed from the loop's first test
abbrev pub decreases-loop-entries : goal.decreases-loop-entries
decreases-loop-entries l = l.end - l.entries.end

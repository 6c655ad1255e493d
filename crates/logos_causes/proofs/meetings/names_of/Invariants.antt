use Rattle.std.proofs.Common.{◌≡◌, ◌+◌, ◌-◌, length}
use Rattle.logos_causes.proofs.meetings.names_of.Given as goal

-- with those that are left there is a name for each number
abbrev pub invariant-loop-number : goal.invariant-loop-number
invariant-loop-number l = length l.names.items + (length l.set - l.number-index) ≡ length l.set

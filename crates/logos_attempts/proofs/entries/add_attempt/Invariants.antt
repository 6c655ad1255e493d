use Rattle.std.proofs.Common.{◌≡◌}
use Rattle.logos_attempts.proofs.entries.add_attempt.Given as goal

-- the end of the counted attempts stays
abbrev pub invariant-loop-at : goal.invariant-loop-at
invariant-loop-at l = l.entries.end ≡ l.fn.entries.end

use Rattle.std.proofs.Common.{◌-◌}
use Rattle.logos_attempts.specs.Around.{LeadsTo}
use Rattle.logos_attempts.proofs.around.found_around.Given as goal

-- match attempts lead to the offset
abbrev pub invariant-loop-at : goal.invariant-loop-at
invariant-loop-at l = LeadsTo l.code l.input l.at

abbrev pub decreases-loop-at : goal.decreases-loop-at
decreases-loop-at l = l.offset - l.at

use Rattle.std.proofs.Common.{◌≡◌, ℕ, ◌<◌, ◌≤◌, get_or}
use Rattle.logos_lexeme.proofs.lexeme.ends.line_end.Given as goal

abbrev pub invariant-loop-end : goal.invariant-loop-end
invariant-loop-end l = record { begun : l.from ≤ l.end; within : l.end ≤ l.initial.end; returns : (i : ℕ) → l.end ≤ i → i < l.initial.end → get_or l.source i 0 ≡ 13 }

abbrev pub decreases-loop-end : goal.decreases-loop-end
decreases-loop-end l = l.end

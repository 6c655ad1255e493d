use Rattle.std.proofs.Common.{◌≢◌, ℕ, ◌-◌, ◌<◌, ◌≤◌, length, get_or}
use Rattle.logos_lexeme.proofs.lexeme.ends.feed_at.Given as goal

abbrev pub invariant-loop-at : goal.invariant-loop-at
invariant-loop-at l = record { begun : l.from ≤ l.at; within : l.at ≤ length l.source; first : (i : ℕ) → l.from ≤ i → i < l.at → get_or l.source i 0 ≢ 10 }

abbrev pub decreases-loop-at : goal.decreases-loop-at
decreases-loop-at l = length l.source - l.at

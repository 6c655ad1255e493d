use Rattle.std.proofs.Common.{ℕ, ◌-◌, ◌<◌, ◌≤◌, length}
use Rattle.logos_lexeme.specs.LexemeEnds.{IsRawEnd}
use Rattle.logos_lexeme.proofs.lexeme.ends.raw_end.Given as goal

abbrev pub invariant-loop-at : goal.invariant-loop-at
invariant-loop-at l = record { begun : l.body ≤ l.at; first : (i : ℕ) → l.body ≤ i → i < l.at → IsRawEnd l.count l.source i → ⊥ }

abbrev pub decreases-loop-at : goal.decreases-loop-at
decreases-loop-at l = length l.source - l.at

use Rattle.std.proofs.Common.{ℕ, ◌-◌, ◌<◌, ◌≤◌, length, get_or}
use Rattle.std.specs.Prelude.{IsFalse}
use Rattle.logos_lexeme.specs.LiteralBodies.{is_blank}
use Rattle.logos_lexeme.proofs.lexeme.bodies.blanks_end.Given as goal

abbrev pub invariant-loop-end : goal.invariant-loop-end
invariant-loop-end l = record {
  begun : l.from ≤ l.end;
  within : l.end ≤ length l.source;
  first : (i : ℕ) → l.from ≤ i → i < l.end → IsFalse (is_blank (get_or l.source i 0)) → ⊥;
}

abbrev pub decreases-loop-end : goal.decreases-loop-end
decreases-loop-end l = length l.source - l.end

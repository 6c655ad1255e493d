use Rattle.std.proofs.Common.{ℕ, ◌+◌, ◌-◌, ◌≤◌, length}
use Rattle.logos_lexeme.specs.LexemeEnds.{Closes}
use Rattle.logos_lexeme.proofs.lexeme.ends.block_end.Given as goal

abbrev pub invariant-loop-depth : goal.invariant-loop-depth
invariant-loop-depth l = record {
  near : l.at ≤ length l.source + 2;
  shallow : l.depth ≤ l.at + 1;
  on : (to : ℕ) → Closes l.source l.depth l.at to → Closes l.source 1 l.from to;
  back : (to : ℕ) → Closes l.source 1 l.from to → Closes l.source l.depth l.at to;
}

abbrev pub decreases-loop-depth : goal.decreases-loop-depth
decreases-loop-depth l = length l.source + 2 - l.at

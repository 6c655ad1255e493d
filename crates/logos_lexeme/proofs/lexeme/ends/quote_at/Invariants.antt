use Rattle.std.proofs.Common.{ℕ, ◌-◌, length}
use Rattle.logos_lexeme.specs.LexemeEnds.{ReachesQuote}
use Rattle.logos_lexeme.proofs.lexeme.ends.quote_at.Given as goal

abbrev pub invariant-loop-at : goal.invariant-loop-at
invariant-loop-at l = record {
  on : (to : ℕ) → ReachesQuote l.quote l.source l.at to → ReachesQuote l.quote l.source l.from to;
  back : (to : ℕ) → ReachesQuote l.quote l.source l.from to → ReachesQuote l.quote l.source l.at to;
}

abbrev pub decreases-loop-at : goal.decreases-loop-at
decreases-loop-at l = length l.source - l.at

use Rattle.std.proofs.Common.{ℕ, ◌<◌, Contains, slice_index_or}
use Rattle.logos_evidence.specs.Matching.{IsAtMost}
use Rattle.logos_evidence.specs.declared.matches.Match.{Match}
use Rattle.logos_evidence.proofs.matches.winner.Given as goal

-- the best so far is at least as good as those before
abbrev pub invariant-loop-other : goal.invariant-loop-other
invariant-loop-other l = record {
  one : Contains l.matches l.best;
  best : (k : ℕ) (m : Match) → k < l.other-index → IsAtMost (slice_index_or l.matches k m) l.best;
}

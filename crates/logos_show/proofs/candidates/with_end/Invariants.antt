use Rattle.logos_show.proofs.CandidateLemmas.{NoneBefore}
use Rattle.logos_show.specs.Candidates.{EndsWith}
use Rattle.logos_show.proofs.candidates.with_end.Given as goal

abbrev pub invariant-loop-candidate : goal.invariant-loop-candidate
invariant-loop-candidate l = NoneBefore (EndsWith l.name) l.candidates l.candidate-index

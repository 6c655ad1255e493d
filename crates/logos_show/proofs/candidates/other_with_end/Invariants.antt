use Rattle.logos_show.proofs.CandidateLemmas.{NoneBefore}
use Rattle.logos_show.specs.Candidates.{IsOther}
use Rattle.logos_show.proofs.candidates.other_with_end.Given as goal

abbrev pub invariant-loop-candidate : goal.invariant-loop-candidate
invariant-loop-candidate l = NoneBefore (IsOther l.name l.path) l.candidates l.candidate-index

use Rattle.logos_show.proofs.CandidateLemmas.{NoneBefore}
use Rattle.logos_show.specs.Candidates.{HasPath}
use Rattle.logos_show.proofs.candidates.with_path.Given as goal

abbrev pub invariant-loop-candidate : goal.invariant-loop-candidate
invariant-loop-candidate l = NoneBefore (HasPath l.name) l.candidates l.candidate-index

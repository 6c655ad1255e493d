use Rattle.std.proofs.Common.{drop}
use Rattle.logos_show.proofs.CandidateLemmas.{SoFar}
use Rattle.logos_show.proofs.candidates.candidates_of.Given as goal

abbrev pub invariant-loop-one : goal.invariant-loop-one
invariant-loop-one l = SoFar l.text l.found (drop l.one-index l.found) l.candidates.items

use Rattle.logos_show.proofs.CandidateLemmas.{none_all, none_next_at, not_so}
use Rattle.logos_show.specs.Candidates.{IsOther}
use Rattle.logos_show.proofs.candidates.other_with_end.Goals as goal

pub loop-candidate-preserved : goal.loop-candidate-preserved
loop-candidate-preserved c =
    none_next_at (IsOther c.args.name.now c.args.path.now) c.args.candidates.now c.loop-candidate.candidate-index c.candidate-item.result c.loop-candidate-test.true c.candidate-item.is
    (not_so c.is_other.result c.if-is_other.false (rw c.as_str.ensures.value at c.is_other.ensures)) c.loop-candidate.invariant

pub returns : goal.returns
returns c = none_all (IsOther c.args.name.now c.args.path.now) c.args.candidates.now c.loop-candidate.candidate-index c.loop-candidate-test.false c.loop-candidate.invariant

use Rattle.logos_show.proofs.CandidateLemmas.{none_all, none_next_at, not_so}
use Rattle.logos_show.specs.Candidates.{EndsWith}
use Rattle.logos_show.proofs.candidates.with_end.Goals as goal

pub loop-candidate-preserved : goal.loop-candidate-preserved
loop-candidate-preserved c =
    none_next_at (EndsWith c.args.name.now) c.args.candidates.now c.loop-candidate.candidate-index c.candidate-item.result c.loop-candidate-test.true c.candidate-item.is
    (not_so c.ends_with_path.result c.if-ends_with_path.false (rw c.as_str.ensures.value at c.ends_with_path.ensures)) c.loop-candidate.invariant

pub returns : goal.returns
returns c = none_all (EndsWith c.args.name.now) c.args.candidates.now c.loop-candidate.candidate-index c.loop-candidate-test.false c.loop-candidate.invariant

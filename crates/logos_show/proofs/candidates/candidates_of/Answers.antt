use Rattle.logos_show.proofs.CandidateLemmas.{ended}
use Rattle.logos_show.proofs.candidates.candidates_of.Goals as goal

pub returns : goal.returns
returns c = ended c.args.text.now c.args.found.now c.loop-one.one-index c.loop-one.candidates.items c.loop-one-test.false c.loop-one.invariant

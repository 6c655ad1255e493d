use Rattle.logos_strip.proofs.again.BackLemmas.{stripped-back}
use Rattle.logos_strip.proofs.laws.strips_back.Goals as goal

pub returns : goal.returns
returns c = stripped-back

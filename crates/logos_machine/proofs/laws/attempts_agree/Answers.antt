use Rattle.logos_machine.proofs.AgreeLemmas.{attempts_agree}
use Rattle.logos_machine.proofs.laws.attempts_agree.Goals as goal

pub returns : goal.returns
returns c = attempts_agree

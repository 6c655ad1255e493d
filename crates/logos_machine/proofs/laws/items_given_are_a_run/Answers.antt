use Rattle.logos_machine.proofs.ItemsLemmas.{run_given}
use Rattle.logos_machine.proofs.laws.items_given_are_a_run.Goals as goal

pub returns : goal.returns
returns g c = run_given g.C.Fn

use Rattle.logos_machine.proofs.ItemsLemmas.{next_added}
use Rattle.logos_machine.proofs.laws.next_adds_its_item.Goals as goal

pub returns : goal.returns
returns g c = next_added g.C.Fn

use Rattle.logos_scan.proofs.items.items.Goals as goal

pub returns : goal.returns
returns g c = rw c.requires.first at c.items.ensures

use Rattle.logos_scan.proofs.walk.MaskLemmas.{tops}
use Rattle.logos_scan.proofs.walk.masks.tops_of_16.Goals as goal

pub returns : goal.returns
returns c = tops c.args.trace.now c.args.at c.type_inv.trace c.requires

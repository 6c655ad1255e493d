use Rattle.std.proofs.Common.{refl}
use Rattle.logos_scan.proofs.walk.MaskLemmas.{joined}
use Rattle.logos_scan.proofs.walk.masks.tops_of_32.Goals as goal

pub returns : goal.returns
returns c = joined c.args.trace.now c.args.at 16 32 c.tops_of_16-first.result c.tops_of_16-second.result c.tops_of_16-first.ensures c.tops_of_16-second.ensures refl

use Rattle.std.proofs.Common.{refl}
use Rattle.logos_scan.proofs.walk.MaskLemmas.{joined}
use Rattle.logos_scan.proofs.walk.masks.tops_of_64.Goals as goal

pub returns : goal.returns
returns c = joined c.args.trace.now c.args.at 32 64 c.tops_of_32-first.result c.tops_of_32-second.result c.tops_of_32-first.ensures c.tops_of_32-second.ensures refl

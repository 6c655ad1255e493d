use Rattle.logos_machine.proofs.BlockLemmas.{low_ok, by_low}
use Rattle.logos_machine.proofs.machine.fast_loop.by_low.Goals as goal

pub swizzle : goal.swizzle
swizzle c = low_ok c.args.bytes c.fits-bytes

pub returns : goal.returns
returns c = by_low c.args.mask.now c.args.at c.args.bytes c.requires c.fits-bytes

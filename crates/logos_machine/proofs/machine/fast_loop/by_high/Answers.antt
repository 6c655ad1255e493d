use Rattle.logos_machine.proofs.BlockLemmas.{high_ok, by_high}
use Rattle.logos_machine.proofs.machine.fast_loop.by_high.Goals as goal

pub swizzle : goal.swizzle
swizzle c = high_ok c.args.bytes c.fits-bytes

pub returns : goal.returns
returns c = by_high c.args.bits c.args.bytes c.fits-bytes

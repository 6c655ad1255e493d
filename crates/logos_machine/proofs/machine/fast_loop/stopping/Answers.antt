use Rattle.std.proofs.Common.{◌≡◌, length, rules}
use Rattle.logos_code.specs.Bytes.{passes_test}
use Rattle.logos_machine.proofs.BlockLemmas.{lanes_fit, stops_marked}
use Rattle.logos_machine.proofs.machine.fast_loop.stopping.Goals as goal

pub returns : goal.returns
returns c =
    let long : length c.args.block.now ≡ 16 = search rules in
    stops_marked (passes_test c.args.code.now.bit_tables c.args.test) c.mask-mask.result.now c.mask-mask.ensures c.args.block.now
    c.by_low.result c.by_high.result c.by_low-2.result c.by_high-2.result (long, lanes_fit c.args.block.now c.fits-block)
    c.by_low.ensures c.by_high.ensures c.by_low-2.ensures c.by_high-2.ensures

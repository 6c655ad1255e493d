use Rattle.std.proofs.Common.{arith}
use Rattle.logos_machine.proofs.StopLemmas.{stop_found, stop_after}
use Rattle.logos_machine.proofs.machine.fast_loop.stop.Goals as goal

pub returns-then-bits-ne0 : goal.returns-then-bits-ne0
returns-then-bits-ne0 c =
    let chunk = c.in-Some.ensures.cases in
    stop_found c.args.code.now c.args.test c.args.input.now c.args.from c.in-Some.block.now c.stopping-bits.result c.requires.within chunk.enough chunk.same c.stopping-bits.ensures (omega (arith, c.if-bits-ne0.true))

pub returns : goal.returns
returns c =
    let chunk = c.in-Some.ensures.cases in
    let f = stop_after c.args.code.now c.args.test c.args.input.now c.args.from c.in-Some.block.now c.stopping-bits.result c.requires.within chunk.enough chunk.same c.stopping-bits.ensures (omega (arith, c.if-bits-ne0.false)) in
    omega (arith, f.0, c.stop_far.ensures)

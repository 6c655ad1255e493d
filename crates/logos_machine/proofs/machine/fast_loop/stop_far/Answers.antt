use Rattle.std.proofs.Common.{◌∙◌, sym, arith}
use Rattle.logos_machine.proofs.StopLemmas.{stop_found, stop_after}
use Rattle.logos_machine.proofs.machine.fast_loop.stop_far.Goals as goal

pub returns-then-bits-ne0 : goal.returns-then-bits-ne0
returns-then-bits-ne0 c =
    let i = c.loop-block.invariant in
    let chunk = c.in-Some.ensures.cases in
    stop_found c.args.code.now c.args.test c.args.input.now c.loop-block.at c.in-Some.block.now c.stopping-bits.result i.within chunk.enough chunk.same c.stopping-bits.ensures (omega (arith, c.if-bits-ne0.true))
    ∙ sym i.same

pub loop-block-preserved : goal.loop-block-preserved
loop-block-preserved c =
    let i = c.loop-block.invariant in
    let chunk = c.in-Some.ensures.cases in
    let f = stop_after c.args.code.now c.args.test c.args.input.now c.loop-block.at c.in-Some.block.now c.stopping-bits.result i.within chunk.enough chunk.same c.stopping-bits.ensures (omega (arith, c.if-bits-ne0.false)) in
    record { same = i.same ∙ f.0; within = f.1 }

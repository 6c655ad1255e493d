use Rattle.std.proofs.Common.{arith}
use Rattle.logos_items.proofs.inputs.write_by_chunks.Goals as goal

pub loop-item-init : goal.loop-item-init
loop-item-init g c =
    let run = c.new-run.ensures in
    record {
      ready = run.ready;
      within = omega (arith, run.start);
    }

pub loop-item-preserved : goal.loop-item-preserved
loop-item-preserved g c =
    let given = c.in-Some.ensures.item in
    record {
      ready = c.in-Some.ensures.ready;
      within = rw c.new-reading.ensures.input at given.1.within;
    }

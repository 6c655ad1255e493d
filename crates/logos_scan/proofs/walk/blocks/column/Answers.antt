use Rattle.std.proofs.Common.{◌+◌, ◌<◌, length, refl, rules, arith}
use Rattle.logos_scan.proofs.walk.BlocksLemmas.{row_starts_set, stepped_all, stepped_on}
use Rattle.logos_scan.proofs.walk.blocks.column.Goals as goal

pub loop-block-preserved : goal.loop-block-preserved
loop-block-preserved c =
    let l = c.loop-block in
    let e = c.step.ensures in
    let few : l.block < 6 = omega (arith, c.loop-block-test.true) in
    let inside : l.block < length l.row_starts = search rules in
    record {
      walked = λ origin w.
          stepped_on c.args.rows.now c.args.text.now origin l.trace c.step.new.trace c.args.at l.block c.step.result (l.block + 1) l.row_starts _ few c.requires.at (search rules) inside refl e.trace e.result refl
          (l.invariant.walked origin w);
      row_starts = row_starts_set c.args.rows.now l.row_starts _ l.block c.step.result inside refl e.stays l.invariant.row_starts;
    }

pub returns-clause-walked : goal.returns-clause-walked
returns-clause-walked c origin w =
    let l = c.loop-block in
    stepped_all c.args.rows.now c.args.text.now origin l.trace c.args.at l.block l.row_starts (omega (arith, c.loop-block-test.false)) (l.invariant.walked origin w)

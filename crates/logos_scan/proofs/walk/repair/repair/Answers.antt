use Rattle.std.proofs.Common.{◌+◌, refl, inl, arith}
use Rattle.logos_scan.specs.walk.Walk.{entry_at}
use Rattle.logos_scan.proofs.walk.WalkLemmas.{walked_step, walked_apart, walked_rest, walked_again, same_beside}
use Rattle.logos_scan.proofs.walk.repair.repair.Goals as goal

pub loop-at-preserved : goal.loop-at-preserved
loop-at-preserved c =
    let i = c.loop-at.invariant in
    let rows = c.args.rows.now in
    let text = c.args.text.now in
    let s = c.step-now.ensures in
    let e = entry_at rows text c.loop-at.at c.loop-at.now in
    record {
      walked = walked_step rows text c.args.row_start c.loop-at.trace c.step-now.new.trace c.args.stretch.from c.loop-at.at (c.loop-at.at + 1) c.loop-at.now c.step-now.result (omega arith) (omega arith) refl s.trace s.result i.walked;
      stays = s.stays;
      beside = same_beside c.args.stretch.from c.loop-at.at (c.loop-at.at + 1) c.args.trace.now c.loop-at.trace c.step-now.new.trace e (omega arith) (omega arith) s.trace c.loop-at.at (omega arith) i.beside;
      guessed = (
        _,
        walked_apart rows text _ c.loop-at.trace c.step-now.new.trace (c.loop-at.at + 1) c.args.stretch.to c.args.stretch.end c.loop-at.at e (inl (omega arith)) s.trace
            (walked_rest rows text i.guessed.0 c.loop-at.trace c.loop-at.at c.args.stretch.to c.args.stretch.end (omega arith) i.guessed.1),
      );
    }

pub returns-then-before-now : goal.returns-then-before-now
returns-then-before-now c =
    let i = c.loop-at.invariant in
    let rows = c.args.rows.now in
    let text = c.args.text.now in
    let s = c.step-now.ensures in
    record {
      walked = walked_again rows text c.args.row_start i.guessed.0 c.loop-at.trace c.step-now.new.trace c.args.stretch.from c.loop-at.at c.args.stretch.to c.loop-at.now c.step-now.result c.args.stretch.end (omega arith) (omega arith) (omega arith) s.trace s.result c.if-before-now.true i.walked i.guessed.1;
      stays = c.requires.holds.stays;
      after = omega arith;
      within = omega arith;
      beside = same_beside c.args.stretch.from c.loop-at.at (c.loop-at.at + 1) c.args.trace.now c.loop-at.trace c.step-now.new.trace (entry_at rows text c.loop-at.at c.loop-at.now) (omega arith) (omega arith) s.trace c.loop-at.at (omega arith) i.beside;
    }

use Rattle.std.proofs.Common.{◌≡◌, ◌+◌, ◌<◌, length, set, refl, rules, arith}
use Rattle.logos_scan.proofs.walk.BlocksLemmas.{repaired_on, stretched}
use Rattle.logos_scan.proofs.walk.blocks.walk_chunk.Goals as goal

pub repaired_block-now-requires-clause-holds : goal.repaired_block-now-requires-clause-holds
repaired_block-now-requires-clause-holds c =
    let l = c.loop-block in
    let few : l.block < 6 = omega (arith, c.loop-block-test.true) in
    let long : length l.trace ≡ 4608 = search rules in
    record {
      order = omega arith;
      in_text = omega (arith, few, c.requires.text);
      in_trace = omega (arith, few, long);
      walked = stretched c.args.rows.now c.args.text.now (set c.guess_row_starts-from.result 0 c.args.row_start) c.walk_blocks.new.row_starts l.trace c.args.row_start l.block l.now few l.invariant.repaired_block;
      stays = l.invariant.ends l.block few;
    }

pub loop-block-preserved : goal.loop-block-preserved
loop-block-preserved c =
    let l = c.loop-block in
    let e = c.repaired_block-now.ensures in
    record {
      repaired_block = repaired_on c.args.rows.now c.args.text.now (set c.guess_row_starts-from.result 0 c.args.row_start) c.walk_blocks.new.row_starts l.trace c.repaired_block-now.new.trace c.args.row_start l.block l.now c.repaired_block-now.result (l.block + 1) refl
          e.walked e.beside l.invariant.repaired_block;
      ends = l.invariant.ends;
      stays = e.stays;
    }

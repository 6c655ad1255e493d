use Rattle.std.proofs.Common.{◌∙◌, arith}
use Rattle.logos_byte_class.proofs.JoinLemmas.{next_taken}
use Rattle.logos_byte_class.proofs.byte_class.first_comparison.Goals as goal

pub loop-next-preserved : goal.loop-next-preserved
loop-next-preserved c = record {
  some = omega arith;
  within = omega arith;
  shape = c.loop-next.invariant.shape
      ∙ rw c.in_ok-push.ensures.items
      (next_taken c.args.ranges.now c.loop-next.next _ _ c.start-first.result.now c.loop-next.last _ _ c.loop-next.except.items
      c.loop-next-test.true c.start.ensures c.end-last-in-loop-next.ensures c.if-start-last.true);
}

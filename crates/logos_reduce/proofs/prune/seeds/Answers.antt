use Rattle.std.proofs.Common.{arith}
use Rattle.logos_reduce.proofs.pruning.PruneLemmas.{seeds_more}
use Rattle.logos_reduce.proofs.prune.seeds.Goals as goal

pub loop-s-init : goal.loop-s-init
loop-s-init c = (omega (arith, c.in_ok-order.ensures.len), λ s m. absurd (c.in_ok-order.ensures.none s m), λ s l. absurd (omega arith))

pub loop-s-preserved : goal.loop-s-preserved
loop-s-preserved c =
    let r = seeds_more c.args.table.now c.loop-s.s c.loop-s.order.numbers.items c.meet_if.new.self.numbers.items c.is_seed.result c.meet_if.ensures.grows c.is_seed.ensures
    c.loop-s.invariant.1 c.loop-s.invariant.2 c.in_ok-meet_if.ensures.met c.meet_if.ensures.only in
    (omega arith, r.0, r.1)

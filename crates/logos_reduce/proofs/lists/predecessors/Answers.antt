use Rattle.std.proofs.Common.{◌≡◌, rules, arith, subst}
use Rattle.logos_reduce.specs.Lists.{AreRising}
use Rattle.logos_reduce.specs.Table.{size}
use Rattle.logos_reduce.proofs.listings.RisingLemmas.{rising-more}
use Rattle.logos_reduce.proofs.lists.predecessors.Goals as goal

pub loop-s-preserved : goal.loop-s-preserved
loop-s-preserved c = (search rules, search rules, c.in_ok-file_row.ensures.rising (rising-more c.loop-s.s c.loop-s.lists.items c.loop-s.invariant.2))

pub returns-clause-rising : goal.returns-clause-rising
returns-clause-rising c =
    let end : c.loop-s.s ≡ size c.args.table.now = omega arith in
    subst (λ n. AreRising n c.loop-s.lists.items) end c.loop-s.invariant.2

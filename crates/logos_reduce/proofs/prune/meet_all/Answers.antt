use Rattle.std.proofs.Common.{arith, subst}
use Rattle.logos_reduce.specs.Order.{IsMet}
use Rattle.logos_reduce.proofs.listings.ListLemmas.{has-get, has_index}
use Rattle.logos_reduce.proofs.orders.OrderLemmas.{grows_on}
use Rattle.logos_reduce.proofs.pruning.PruneLemmas.{met_more, met_of}
use Rattle.logos_reduce.proofs.prune.meet_all.Goals as goal

pub meet-requires : goal.meet-requires
meet-requires c =
    let h = c.requires _ (has-get c.args.list.now.items c.loop-s.s-index (omega arith)) in
    rw c.deref-s-items.ensures.value (omega (arith, h, c.loop-s.invariant.0))

pub returns-in_err-meet-clause-grows : goal.returns-in_err-meet-clause-grows
returns-in_err-meet-clause-grows c = grows_on _ _ _ c.loop-s.invariant.1 c.meet.ensures.grows

pub loop-s-preserved : goal.loop-s-preserved
loop-s-preserved c =
    let same = c.deref-s-items.ensures.value in (
      omega arith,
      grows_on _ _ _ c.loop-s.invariant.1 c.meet.ensures.grows,
      met_more c.args.list.now.items c.loop-s.order.numbers.items c.meet.new.self.numbers.items c.loop-s.s-index c.meet.ensures.grows c.loop-s.invariant.2
          (rw same at c.in_ok-meet.ensures.met),
      met_of c.args.list.now.items c.args.order.now.numbers.items c.loop-s.order.numbers.items c.meet.new.self.numbers.items c.loop-s.s-index (omega arith)
          c.loop-s.invariant.3 (rw same at c.meet.ensures.only),
    )

pub returns-clause-all : goal.returns-clause-all
returns-clause-all c = λ s h.
    let p = has_index c.args.list.now.items s h in
    subst (IsMet c.loop-s.order.numbers.items) p.2 (c.loop-s.invariant.2 p.0 (let l = p.1 in omega arith))

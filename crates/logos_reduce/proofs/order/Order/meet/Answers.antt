use Rattle.std.proofs.Common.{◌≡◌, ◌+◌, arith, length, slice_index}
use Rattle.std.proofs.lemmas.Grind.{common_steps}
use Rattle.logos_reduce.proofs.orders.OrderLemmas.{order_more}
use Rattle.logos_reduce.proofs.order.Order.meet.Goals as goal

pub invariant_of-self-then-index-eq0 : goal.invariant_of-self-then-index-eq0
invariant_of-self-then-index-eq0 c =
    let free : slice_index c.args.self.now.numbers.items c.args.s ≡ 0 = grind (arith, common_steps) in
    let size : c.len.result ≡ length c.args.self.now.states.items + 1 = omega (arith, c.in_ok-push.ensures.len) in
    let h = order_more c.args.self.now.numbers.items c.args.self.now.states.items c.args.s c.args.self.now.in_order (omega arith) free in
    record { in_order = rw (size, c.in_ok-push.ensures.items) h }

use Rattle.std.proofs.Common.{◌≡◌, ◌<◌, length, slice_index, arith, ap, sym}
use Rattle.std.proofs.lemmas.Grind.{common_steps}
use Rattle.logos_reduce.specs.Table.{size}
use Rattle.logos_reduce.proofs.orders.OrderLemmas.{order_few, met_kept, slot_kept}
use Rattle.logos_reduce.proofs.pruning.PruneLemmas.{seed_of_use, listed_within, sound_more, closed_more, all_of_use}
use Rattle.logos_reduce.proofs.prune.useful_states.Goals as goal

pub loop-i-init : goal.loop-i-init
loop-i-init c = record {
  room = c.in_ok-order.ensures.len;
  sound = λ s m. seed_of_use c.args.table.now s (c.in_ok-order.ensures.only s m);
  seeds = c.in_ok-order.ensures.all;
  closed = λ j s b l. absurd (omega arith);
  passed = omega arith;
}

pub meet_all-requires : goal.meet_all-requires
meet_all-requires c = λ s h.
    let o = c.loop-i.order in
    let p = (o.in_order.placed c.loop-i.i (omega arith)) in
    let e : c.index-t.result.now ≡ slice_index o.states.items c.loop-i.i = grind (arith, common_steps) in
    let l = listed_within c.args.table.now c.in_ok-from.from.items c.in_ok-from.ensures.lists (omega (arith, c.in_ok-from.ensures.len)) c.index-t.result.now (omega (arith, p.0, c.loop-i.invariant.room)) c.index.result.now c.index.ensures s h in
    omega (arith, l, c.loop-i.invariant.room)

pub loop-i-smaller : goal.loop-i-smaller
loop-i-smaller c =
    let few = order_few c.loop-i.order.numbers.items c.loop-i.order.states.items c.loop-i.order.in_order in
    omega (arith, few, c.loop-i.invariant.room)

pub loop-i-preserved : goal.loop-i-preserved
loop-i-preserved c =
    let o = c.loop-i.order in
    let n = c.meet_all.new.order in
    let table = c.args.table.now in
    let i = c.loop-i.i in
    let at = (o.in_order.placed i (omega arith)) in
    let e : c.index-t.result.now ≡ slice_index o.states.items i = grind (arith, common_steps) in
    let here : c.index-t.result.now < size table = omega (arith, at.0, c.loop-i.invariant.room) in
    let from_len : length c.in_ok-from.from.items ≡ size table = omega (arith, c.in_ok-from.ensures.len) in
    let of_use = c.loop-i.invariant.sound c.index-t.result.now (let q = ap (slice_index o.numbers.items) e in omega (arith, q, at.1)) in
    record {
      room = omega (arith, c.meet_all.ensures.len, c.loop-i.invariant.room);
      sound = sound_more table c.in_ok-from.from.items c.in_ok-from.ensures.lists from_len c.index-t.result.now here c.index.result.now c.index.ensures
          o.numbers.items n.numbers.items c.loop-i.invariant.sound of_use c.meet_all.ensures.only;
      seeds = λ s l k. met_kept o.numbers.items n.numbers.items c.meet_all.ensures.grows s (c.loop-i.invariant.seeds s l k);
      closed = closed_more table c.in_ok-from.from.items c.in_ok-from.ensures.lists from_len c.index-t.result.now here c.index.result.now c.index.ensures
          o.numbers.items o.states.items n.numbers.items n.states.items o.in_order n.in_order c.meet_all.ensures.grows i (omega arith) (sym e) c.loop-i.invariant.closed c.in_ok-meet_all.ensures.all;
      passed = let q = (slot_kept o.numbers.items o.states.items n.numbers.items n.states.items o.in_order n.in_order c.meet_all.ensures.grows i (omega arith)).0 in omega (arith, q);
    }

pub returns-clause-useful : goal.returns-clause-useful
returns-clause-useful c = λ s l.
    let o = c.loop-i.order in (
      c.loop-i.invariant.sound s,
      all_of_use c.args.table.now o.numbers.items o.states.items o.in_order c.loop-i.invariant.seeds (λ j s b k. c.loop-i.invariant.closed j s b (omega arith)) s l,
    )

use Rattle.std.proofs.Common.{slice_index, sym, ◌∙◌, arith}
use Rattle.logos_reduce.specs.Merge.{target_block}
use Rattle.logos_reduce.specs.Table.{size}
use Rattle.logos_reduce.proofs.numbering.NumberLemmas.{used_leader, used_few, target_numbered, number_few}
use Rattle.logos_reduce.proofs.number.number.Goals as goal

pub numbered_rows-requires-clause-leaders : goal.numbered_rows-requires-clause-leaders
numbered_rows-requires-clause-leaders c =
    λ i l. (used_leader (size c.args.table.now) (slice_index c.args.merged.now.blocks.of.items) (slice_index c.args.merged.now.leaders.items) c.in_ok-order.order.states.items c.in_ok-order.ensures.used c.requires.leaders i (omega arith)).0

pub numbered_rows-requires-clause-few : goal.numbered_rows-requires-clause-few
numbered_rows-requires-clause-few c = λ b.
    let o = c.in_ok-order.order in
    let few = used_few (size c.args.table.now) (slice_index c.args.merged.now.blocks.of.items) (slice_index c.args.merged.now.leaders.items) o.numbers.items o.states.items o.in_order c.in_ok-order.ensures.used c.requires.leaders in
    let n = number_few o.numbers.items o.states.items o.in_order b in
    let small = c.args.table.now.few in
    omega (arith, few, n, small)

pub numbered_marks-requires-clause-leaders : goal.numbered_marks-requires-clause-leaders
numbered_marks-requires-clause-leaders c =
    λ i l. (used_leader (size c.args.table.now) (slice_index c.args.merged.now.blocks.of.items) (slice_index c.args.merged.now.leaders.items) c.in_ok-order.order.states.items c.in_ok-order.ensures.used c.requires.leaders i (omega arith)).0

pub invariant_of-result : goal.invariant_of-result
invariant_of-result c =
    let o = c.in_ok-order.order in
    record {
      same_len = omega (arith, c.in_ok-rows.ensures.len, c.in_ok-marks.ensures.len);
      closed = λ s k t l e.
          let p = target_numbered o.numbers.items o.states.items o.in_order (target_block c.args.table.now (slice_index c.args.merged.now.blocks.of.items) (slice_index c.args.merged.now.leaders.items (slice_index o.states.items s)) k) t
          (sym (c.in_ok-rows.ensures.rows s k (omega (arith, c.in_ok-marks.ensures.len))) ∙ e) in
          omega (arith, p.2, c.in_ok-marks.ensures.len);
      few =
          let few = used_few (size c.args.table.now) (slice_index c.args.merged.now.blocks.of.items) (slice_index c.args.merged.now.leaders.items) o.numbers.items o.states.items o.in_order c.in_ok-order.ensures.used c.requires.leaders in
          let small = c.args.table.now.few in
          omega (arith, few, small, c.in_ok-marks.ensures.len);
    }

pub returns : goal.returns
returns c =
    let o = c.in_ok-order.order in
    record {
      numbers = o.numbers.items;
      order = o.in_order;
      in_turn = c.in_ok-order.ensures.in_turn;
      used = c.in_ok-order.ensures.used;
      some = let s = c.in_ok-order.ensures.some in omega arith;
      start = c.in_ok-order.ensures.start;
      states_of = omega (arith, c.in_ok-marks.ensures.len);
      marks = λ i l. c.in_ok-marks.ensures.marks i (omega arith);
      edges = λ i k l. c.in_ok-rows.ensures.rows i k (omega arith);
    }

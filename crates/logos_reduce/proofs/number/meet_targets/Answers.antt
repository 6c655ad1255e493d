use Rattle.std.proofs.Common.{◌≡◌, ℕ, option_map, slice_index, arith, ap, sym, ◌∙◌}
use Rattle.logos_reduce.specs.Merge.{target_block}
use Rattle.logos_reduce.specs.Table.{size, to}
use Rattle.logos_reduce.proofs.tables.EdgeLemmas.{led_symbol}
use Rattle.logos_reduce.proofs.orders.OrderLemmas.{grows_on, slot_kept}
use Rattle.logos_reduce.proofs.numbering.NumberLemmas.{turn_more, turn_next, turn_past, run_goes, used_more, used_leader, leader_read, used_by, met_by}
use Rattle.logos_reduce.proofs.number.meet_targets.Goals as goal

pub row-row-requires : goal.row-row-requires
row-row-requires c =
    let o = c.args.order.now in
    let p = used_leader (size c.args.table.now) (slice_index c.args.merged.now.blocks.of.items) (slice_index c.args.merged.now.leaders.items) o.states.items c.requires.used c.requires.leaders c.args.i (omega arith) in
    let u = c.requires.used c.args.i (omega arith) in
    let w = c.requires.within u.0 u.1 in
    let e = leader_read o.states.items c.args.merged.now.leaders.items c.args.i c.index.result.now c.index-2.result.now c.index.ensures (omega arith) c.index-2.ensures (omega (arith, w, u.2)) in
    omega (arith, p.0, e)

pub returns-in_err-meet_target-clause-grows : goal.returns-in_err-meet_target-clause-grows
returns-in_err-meet_target-clause-grows c = grows_on _ _ _ c.loop-k.invariant.grows c.meet_target.ensures.grows

pub loop-k-preserved : goal.loop-k-preserved
loop-k-preserved c =
    let table = c.args.table.now in
    let block = slice_index c.args.merged.now.blocks.of.items in
    let leader = slice_index c.args.merged.now.leaders.items in
    let i = c.args.i in
    let k = c.loop-k.k in
    let first = c.args.order.now in
    let old = c.loop-k.order in
    let new = c.meet_target.new.order in
    let u = c.requires.used i (omega arith) in
    let w = c.requires.within u.0 u.1 in
    let read = leader_read first.states.items c.args.merged.now.leaders.items i c.index.result.now c.index-2.result.now c.index.ensures (omega arith) c.index-2.ensures (omega (arith, w, u.2)) in
    let slot = slot_kept first.numbers.items first.states.items old.numbers.items old.states.items first.in_order old.in_order c.loop-k.invariant.grows i (omega arith) in
    let grows = grows_on _ _ _ c.loop-k.invariant.grows c.meet_target.ensures.grows in
    let slot' = slot_kept first.numbers.items first.states.items new.numbers.items new.states.items first.in_order new.in_order grows i (omega arith) in
    let at' : c.index-2.result.now ≡ leader (slice_index new.states.items i) = read ∙ ap leader (sym slot'.1) in
    let at : c.index-2.result.now ≡ leader (slice_index old.states.items i) = read ∙ ap leader (sym slot.1) in
    let goes : c.block_of.result ≡ target_block table block (leader (slice_index old.states.items i)) k =
    c.block_of.ensures ∙ ap (option_map block) (c.target_at.ensures ∙ c.row-row.ensures.row k ∙ ap (λ (s : ℕ). to table s k) at) in
    let found = c.in_ok-meet_target.ensures.states in
    record {
      len = omega (arith, c.loop-k.invariant.len, c.meet_target.ensures.len);
      within = c.run_end-k.ensures.after.1;
      grows = grows;
      used = used_more (size table) block old.states.items new.states.items c.loop-k.invariant.used (used_by table block (leader (slice_index old.states.items i)) k old.numbers.items old.states.items new.states.items c.block_of.result goes found);
      in_turn = turn_past (λ b k. target_block table block (leader b) k) new.numbers.items new.states.items i k c.run_end-k.result c.run_end-k.ensures.after.0
          (run_goes table block c.index-2.result.now (leader (slice_index new.states.items i)) k c.run_end-k.result c.row-row.result.now c.row-row.ensures.row at' c.run_end-k.ensures.same)
          (turn_more (λ b k. target_block table block (leader b) k) old.numbers.items old.states.items new.numbers.items new.states.items i k slot.0 c.loop-k.invariant.in_turn c.meet_target.ensures.grows
          (λ b e. c.in_ok-meet_target.ensures.met b (goes ∙ e)) (met_by table block (leader (slice_index old.states.items i)) k old.numbers.items old.states.items new.states.items c.block_of.result goes found));
    }

pub returns-clause-in_turn : goal.returns-clause-in_turn
returns-clause-in_turn c =
    let e : c.loop-k.k ≡ 257 = omega arith in
    turn_next (λ b k. target_block c.args.table.now (slice_index c.args.merged.now.blocks.of.items) (slice_index c.args.merged.now.leaders.items b) k)
    (λ b k x q. led_symbol c.args.table.now (slice_index c.args.merged.now.blocks.of.items) (slice_index c.args.merged.now.leaders.items b) k x q)
    c.loop-k.order.numbers.items c.loop-k.order.states.items c.args.i (rw e at c.loop-k.invariant.in_turn)

use Rattle.std.proofs.Common.{◌≡◌, ℕ, ◌++◌, ◌∷◌, [], List, length, slice_index, arith, ap, sym, ◌∙◌}
use Rattle.std.proofs.lemmas.Grind.{get_or_default_zero}
use Rattle.logos_reduce.specs.Merge.{target_block}
use Rattle.logos_reduce.proofs.orders.OrderLemmas.{order_few, slot_kept}
use Rattle.logos_reduce.proofs.numbering.NumberLemmas.{turn_first, not_met}
use Rattle.logos_reduce.proofs.number.breadth_first.Goals as goal

pub loop-i-init : goal.loop-i-init
loop-i-init c =
    let table = c.args.table.now in
    let block = slice_index c.args.merged.now.blocks.of.items in
    let b : c.index.result.now ≡ block c.args.root = c.index.ensures ∙ get_or_default_zero c.args.merged.now.blocks.of.items c.args.root c.index.result.now (omega arith) in
    let none = c.in_ok-order.ensures.none in
    let free = not_met c.in_ok-order.order.numbers.items c.index.result.now (none c.index.result.now) in
    let states : c.meet.new.self.states.items ≡ c.index.result.now ∷ [] =
    c.in_ok-meet.ensures.fresh free ∙ ap (λ (xs : List ℕ). xs ++ c.index.result.now ∷ []) c.in_ok-order.ensures.empty in
    let size_of = ap length states in
    let one : length (c.index.result.now ∷ []) ≡ 1 = omega arith in
    let start : slice_index c.meet.new.self.states.items 0 ≡ block c.args.root = ap (λ (xs : List ℕ). slice_index xs 0) states ∙ b in
    record {
      len = omega (arith, c.meet.ensures.len, c.in_ok-order.ensures.len);
      some = omega (arith, size_of, one);
      start = start;
      used = λ i l. let zero : 0 ≡ i = omega (arith, size_of, one) in (c.args.root, c.requires.root_in, sym start ∙ ap (slice_index c.meet.new.self.states.items) zero);
      passed = omega arith;
      in_turn = turn_first (λ b k. target_block table block (slice_index c.args.merged.now.leaders.items b) k) c.meet.new.self.numbers.items c.meet.new.self.states.items (omega (arith, size_of, one));
    }

pub loop-i-smaller : goal.loop-i-smaller
loop-i-smaller c =
    let few = order_few c.loop-i.order.numbers.items c.loop-i.order.states.items c.loop-i.order.in_order in
    omega (arith, few, c.loop-i.invariant.len)

pub loop-i-preserved : goal.loop-i-preserved
loop-i-preserved c =
    let o = c.loop-i.order in
    let n = c.meet_targets.new.order in
    let kept = slot_kept o.numbers.items o.states.items n.numbers.items n.states.items o.in_order n.in_order c.meet_targets.ensures.grows in
    record {
      len = omega (arith, c.loop-i.invariant.len, c.meet_targets.ensures.len);
      some = let p = (kept 0 (omega (arith, c.loop-i.invariant.some))).0 in omega (arith, p);
      start = (kept 0 (omega (arith, c.loop-i.invariant.some))).1 ∙ c.loop-i.invariant.start;
      used = c.in_ok-meet_targets.ensures.used;
      passed = let p = (kept c.loop-i.i (omega arith)).0 in omega (arith, p);
      in_turn = c.in_ok-meet_targets.ensures.in_turn;
    }

use Rattle.std.proofs.Common.{◌≡◌, ◌<◌, ◌≤◌, ◌-◌, vec_len, slice_index}
use Rattle.logos_reduce.specs.Merge.{target_block}
use Rattle.logos_reduce.specs.Table.{size}
use Rattle.logos_reduce.specs.Number.{IsInTurn, AreUsed}
use Rattle.logos_reduce.proofs.number.breadth_first.Given as goal

abbrev pub invariant-loop-i : goal.invariant-loop-i
invariant-loop-i l = record {
  len : vec_len l.order.numbers ≡ vec_len l.merged.leaders;
  some : 0 < vec_len l.order.states;
  start : slice_index l.order.states.items 0 ≡ slice_index l.merged.blocks.of.items l.root;
  used : AreUsed (size l.table) (slice_index l.merged.blocks.of.items) l.order.states.items;
  passed : l.i ≤ vec_len l.order.states;
  in_turn : IsInTurn (λ b k. target_block l.table (slice_index l.merged.blocks.of.items) (slice_index l.merged.leaders.items b) k) l.order.numbers.items l.order.states.items l.i 0;
}

abbrev pub decreases-loop-i : goal.decreases-loop-i
decreases-loop-i l = vec_len l.merged.leaders - l.i

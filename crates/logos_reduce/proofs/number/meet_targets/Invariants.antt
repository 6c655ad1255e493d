use Rattle.std.proofs.Common.{◌-◌, ◌≡◌, ◌≤◌, vec_len, slice_index}
use Rattle.logos_reduce.specs.Merge.{target_block}
use Rattle.logos_reduce.specs.Table.{size}
use Rattle.logos_reduce.specs.Number.{IsInTurn, AreUsed}
use Rattle.logos_reduce.specs.inside.Order.{Grows}
use Rattle.logos_reduce.proofs.number.meet_targets.Given as goal

abbrev pub invariant-loop-k : goal.invariant-loop-k
invariant-loop-k l = record {
  within : l.k ≤ 257;
  len : vec_len l.order.numbers ≡ vec_len l.initial.order.numbers;
  grows : Grows l.initial.order.numbers.items l.order.numbers.items;
  used : AreUsed (size l.table) (slice_index l.merged.blocks.of.items) l.order.states.items;
  in_turn : IsInTurn (λ b k. target_block l.table (slice_index l.merged.blocks.of.items) (slice_index l.merged.leaders.items b) k) l.order.numbers.items l.order.states.items l.i l.k;
}

abbrev pub decreases-loop-k : goal.decreases-loop-k
decreases-loop-k l = 257 - l.k

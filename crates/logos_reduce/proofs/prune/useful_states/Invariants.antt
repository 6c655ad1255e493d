use Rattle.std.proofs.Common.{◌≡◌, ℕ, ◌<◌, ◌≤◌, ◌-◌, Some, vec_len, slice_index}
use Rattle.logos_reduce.specs.Table.{size, to}
use Rattle.logos_reduce.specs.inside.Prune.{IsSeed}
use Rattle.logos_reduce.specs.Prune.{IsOfUse}
use Rattle.logos_reduce.specs.Order.{IsMet}
use Rattle.logos_reduce.proofs.prune.useful_states.Given as goal

abbrev pub invariant-loop-i : goal.invariant-loop-i
invariant-loop-i l = record {
  room : vec_len l.order.numbers ≡ size l.table;
  sound : (s : ℕ) → IsMet l.order.numbers.items s → IsOfUse l.table s;
  seeds : (s : ℕ) → s < size l.table → IsSeed l.table s → IsMet l.order.numbers.items s;
  closed : (j s b : ℕ) → j < l.i → b < 256 → to l.table s b ≡ Some (slice_index l.order.states.items j) → IsMet l.order.numbers.items s;
  passed : l.i ≤ vec_len l.order.states;
}

abbrev pub decreases-loop-i : goal.decreases-loop-i
decreases-loop-i l = size l.table - l.i

use Rattle.std.proofs.Common.{◌≡◌, ℕ, ◌<◌, ◌⊎◌, true, vec_len, slice_index}
use Rattle.logos_reduce.specs.Lists.{has}
use Rattle.logos_reduce.specs.Order.{IsMet}
use Rattle.logos_reduce.specs.inside.Order.{Grows}
use Rattle.logos_reduce.proofs.prune.meet_all.Given as goal

abbrev pub invariant-loop-s : goal.invariant-loop-s
invariant-loop-s l =
    (vec_len l.order.numbers ≡ vec_len l.initial.order.numbers)
    × Grows l.initial.order.numbers.items l.order.numbers.items
    × ((j : ℕ) → j < l.s-index → IsMet l.order.numbers.items (slice_index l.list.items j))
    × ((s : ℕ) → IsMet l.order.numbers.items s → IsMet l.initial.order.numbers.items s ⊎ (has l.list.items s ≡ true))

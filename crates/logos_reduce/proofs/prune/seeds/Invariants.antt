use Rattle.std.proofs.Common.{◌≡◌, ℕ, ◌<◌, vec_len}
use Rattle.logos_reduce.specs.Table.{size}
use Rattle.logos_reduce.specs.inside.Prune.{IsSeed}
use Rattle.logos_reduce.specs.Order.{IsMet}
use Rattle.logos_reduce.proofs.prune.seeds.Given as goal

abbrev pub invariant-loop-s : goal.invariant-loop-s
invariant-loop-s l =
    (vec_len l.order.numbers ≡ size l.table)
    × ((s : ℕ) → IsMet l.order.numbers.items s → IsSeed l.table s)
    × ((s : ℕ) → s < l.s → IsSeed l.table s → IsMet l.order.numbers.items s)

use Rattle.std.proofs.Common.{◌≡◌, ℕ, ◌<◌, true, slice_index}
use Rattle.logos_reduce.specs.Lists.{has}
use Rattle.logos_reduce.proofs.merge.refine.without_repeats.Given as goal

abbrev pub invariant-loop-s : goal.invariant-loop-s
invariant-loop-s l = (j : ℕ) → j < l.s-index → has l.once.items (slice_index l.list.items j) ≡ true

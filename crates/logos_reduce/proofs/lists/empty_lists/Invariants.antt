use Rattle.std.proofs.Common.{◌≡◌, ℕ, true, vec_len}
use Rattle.logos_reduce.specs.Lists.{has_in, AreRising}
use Rattle.logos_reduce.proofs.lists.empty_lists.Given as goal

abbrev pub invariant-loop-i : goal.invariant-loop-i
invariant-loop-i l = (vec_len l.lists ≡ l._i) × ((b s : ℕ) → has_in l.lists.items b s ≡ true → ⊥) × AreRising 0 l.lists.items

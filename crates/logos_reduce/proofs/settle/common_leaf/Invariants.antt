use Rattle.std.proofs.Common.{◌≡◌, ℕ, ◌<◌, Some}
use Rattle.logos_reduce.specs.inside.Settle.{accepted_in}
use Rattle.logos_reduce.proofs.settle.common_leaf.Given as goal

abbrev pub invariant-loop-k : goal.invariant-loop-k
invariant-loop-k l = (j : ℕ) → j < l.k → accepted_in l.table l.row j ≡ Some l.leaf

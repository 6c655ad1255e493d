use Rattle.std.proofs.Common.{◌≡◌, vec_len}
use Rattle.logos_reduce.specs.inside.Settle.{AreCommonIn}
use Rattle.logos_reduce.proofs.settle.common_leaves.Given as goal

abbrev pub invariant-loop-slot : goal.invariant-loop-slot
invariant-loop-slot l = (vec_len l.leaves ≡ l.slot) × AreCommonIn l.table l.table.rows.distinct.keys.items l.slot l.leaves.items

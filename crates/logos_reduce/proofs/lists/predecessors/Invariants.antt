use Rattle.std.proofs.Common.{◌≡◌, vec_len}
use Rattle.logos_reduce.specs.Lists.{ArePredecessors, AreRising}
use Rattle.logos_reduce.specs.Table.{size, to}
use Rattle.logos_reduce.proofs.lists.predecessors.Given as goal

abbrev pub invariant-loop-s : goal.invariant-loop-s
invariant-loop-s l = (vec_len l.lists ≡ size l.table) × ArePredecessors l.s l.width (to l.table) l.lists.items × AreRising l.s l.lists.items

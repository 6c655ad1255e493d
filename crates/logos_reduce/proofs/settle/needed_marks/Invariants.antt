use Rattle.std.proofs.Common.{◌≡◌, vec_len}
use Rattle.logos_reduce.specs.Table.{size}
use Rattle.logos_reduce.specs.inside.Settle.{AreNeeded}
use Rattle.logos_reduce.proofs.settle.needed_marks.Given as goal

abbrev pub invariant-loop-s : goal.invariant-loop-s
invariant-loop-s l = (vec_len l.needed ≡ size l.table) × AreNeeded l.table l.early.items l.s l.needed.items

use Rattle.std.proofs.Common.{◌≡◌, vec_len}
use Rattle.logos_reduce.specs.inside.Settle.{AreCommon}
use Rattle.logos_reduce.proofs.settle.early_marks.Given as goal

abbrev pub invariant-loop-s : goal.invariant-loop-s
invariant-loop-s l = (vec_len l.early ≡ l.s) × AreCommon l.table l.s l.early.items

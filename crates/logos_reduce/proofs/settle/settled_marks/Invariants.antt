use Rattle.std.proofs.Common.{◌≡◌, ◌<◌, ℕ, vec_len}
use Rattle.logos_reduce.specs.Table.{mark_in}
use Rattle.logos_reduce.specs.inside.Settle.{IsMarkedBy}
use Rattle.logos_reduce.proofs.settle.settled_marks.Given as goal

abbrev pub invariant-loop-s : goal.invariant-loop-s
invariant-loop-s l = (vec_len l.marks ≡ l.s) × ((s : ℕ) → s < l.s → IsMarkedBy l.table l.early.items l.needed.items s (mark_in l.marks.items s))

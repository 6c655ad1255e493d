use Rattle.std.proofs.Common.{◌≡◌, vec_len}
use Rattle.logos_reduce.specs.inside.Merge.{AreKeyNumbers}
use Rattle.logos_reduce.proofs.merge.blocks.by_marks.Given as goal

abbrev pub invariant-loop-s : goal.invariant-loop-s
invariant-loop-s l = (vec_len l.of ≡ l.s) × AreKeyNumbers l.table l.s l.of.items l.keys.keys

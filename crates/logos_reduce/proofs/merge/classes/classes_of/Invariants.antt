use Rattle.std.proofs.Common.{◌≡◌, vec_len}
use Rattle.logos_reduce.specs.inside.Classes.{AreKeyed}
use Rattle.logos_reduce.proofs.merge.classes.classes_of.Given as goal

abbrev pub invariant-loop-s : goal.invariant-loop-s
invariant-loop-s l = (vec_len l.of ≡ l.s) × AreKeyed l.table l.s l.of.items l.keys.keys

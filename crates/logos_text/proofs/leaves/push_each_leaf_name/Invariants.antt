use Rattle.std.proofs.Common.{string_bytes}
use Rattle.logos_text.specs.Occurrence.{Grows}
use Rattle.logos_text.proofs.leaves.push_each_leaf_name.Given as goal

abbrev pub invariant-loop-leaf : goal.invariant-loop-leaf
invariant-loop-leaf l = Grows (string_bytes l.initial.text) (string_bytes l.text)

use Rattle.logos_answers.specs.inside.Numbers.{AreDistinct, AreNumbers, Grows}
use Rattle.logos_answers.proofs.comparison.numbers_of.Given as goal

-- the numbers of the leaves so far are those of their variants
abbrev pub invariant-loop-leaf : goal.invariant-loop-leaf
invariant-loop-leaf l = record {
  numbers : AreNumbers l.table.keys l.leaves l.leaf-index l.numbers.items;
  grows : Grows l.initial.table.keys l.table.keys;
  distinct : AreDistinct l.initial.table.keys → AreDistinct l.table.keys;
}

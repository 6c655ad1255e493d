use Rattle.std.proofs.Common.{◌≡◌, ◌++◌, drop}
use Rattle.logos_automaton.specs.Errors.{numbers}
use Rattle.logos_automaton.proofs.faults.leaf_ids.Given as goal

abbrev pub invariant-loop-leaf : goal.invariant-loop-leaf
invariant-loop-leaf l = numbers l.ids.items ++ drop l.leaf-index l.set ≡ l.set

use Rattle.std.proofs.Common.{◌≡◌, ◌++◌, drop}
use Rattle.logos_automaton.specs.Errors.{numbers}
use Rattle.logos_causes.proofs.meetings.numbers_of.Given as goal

-- with the numbers of the leaves that are left these are all numbers
abbrev pub invariant-loop-leaf : goal.invariant-loop-leaf
invariant-loop-leaf l = l.set.items ++ numbers (drop l.leaf-index l.leaves) ≡ numbers l.leaves

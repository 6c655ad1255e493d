use Rattle.std.proofs.Common.{◌≡◌, ◌++◌, map, drop}
use Rattle.logos_automaton.specs.Errors.{fault_of, numbers}
use Rattle.logos_automaton.specs.Faults.{empty_match}
use Rattle.logos_automaton.proofs.faults.empty_matches.Given as goal

abbrev pub invariant-loop-leaf : goal.invariant-loop-leaf
invariant-loop-leaf l = map fault_of l.errors.items ++ map empty_match (numbers (drop l.leaf-index l.leaf-items)) ≡ map empty_match (numbers l.fn.passed.items)

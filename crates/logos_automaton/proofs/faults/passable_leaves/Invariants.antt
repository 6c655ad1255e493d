use Rattle.std.proofs.Common.{◌≡◌, ◌++◌, drop}
use Rattle.logos_automaton.specs.Errors.{numbers}
use Rattle.logos_automaton.specs.View.{rules_of}
use Rattle.logos_automaton.proofs.ambiguity.PassableLemmas.{passed_from}
use Rattle.logos_automaton.proofs.faults.passable_leaves.Given as goal

-- those found, with those of the rest, are all of them
abbrev pub invariant-loop-number : goal.invariant-loop-number
invariant-loop-number l = numbers l.passed.items ++ passed_from l.number (rules_of (drop l.number l.rules)) ≡ passed_from 0 (rules_of l.rules)

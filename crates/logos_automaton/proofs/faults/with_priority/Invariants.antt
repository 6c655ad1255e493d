use Rattle.std.proofs.Common.{◌≡◌, ◌++◌, drop}
use Rattle.logos_automaton.specs.inside.TopSets.{with_priority}
use Rattle.logos_automaton.specs.View.{rules_of}
use Rattle.logos_automaton.proofs.faults.with_priority.Given as goal

-- the leaves chosen so far, with those still to be chosen, are all of them
abbrev pub invariant-loop-leaf : goal.invariant-loop-leaf
invariant-loop-leaf l = l.chosen.items ++ with_priority (rules_of l.rules) l.priority (drop l.leaf-index l.listed) ≡ with_priority (rules_of l.rules) l.priority l.listed

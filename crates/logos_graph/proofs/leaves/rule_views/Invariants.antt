use Rattle.std.proofs.Common.{◌≡◌, ◌++◌, drop}
use Rattle.logos_automaton.specs.View as views
use Rattle.logos_graph.specs.View.{rules_of}
use Rattle.logos_graph.proofs.leaves.rule_views.Given as goal

-- the rules so far, with those of the rest, are all of them
abbrev pub invariant-loop-leaf : goal.invariant-loop-leaf
invariant-loop-leaf l = views.rules_of l.rules.items ++ rules_of (drop l.leaf-index l.leaves) ≡ rules_of l.leaves

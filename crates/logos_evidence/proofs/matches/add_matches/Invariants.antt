use Rattle.std.proofs.Common.{◌≡◌, ◌++◌, map, take}
use Rattle.logos_automaton.specs.Munch.{priority_of}
use Rattle.logos_graph.specs.View.{rules_of}
use Rattle.logos_evidence.specs.inside.Listed.{match_to}
use Rattle.logos_evidence.proofs.matches.add_matches.Given as goal

abbrev pub invariant-loop-leaf : goal.invariant-loop-leaf
invariant-loop-leaf l =
    l.found.items ≡ l.initial.found.items ++ map (match_to (priority_of (rules_of l.leaves)) l.end) (take l.leaf-index l.listed)

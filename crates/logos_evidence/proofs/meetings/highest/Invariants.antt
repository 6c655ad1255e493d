use Rattle.std.proofs.Common.{◌≡◌, drop, max}
use Rattle.logos_automaton.specs.inside.TopSets.{highest_of}
use Rattle.logos_graph.specs.View.{rules_of}
use Rattle.logos_evidence.proofs.meetings.highest.Given as goal

-- the highest so far, with that of the rest, is the highest of all
abbrev pub invariant-loop-leaf : goal.invariant-loop-leaf
invariant-loop-leaf l = max (highest_of (rules_of l.leaves) (drop l.leaf-index l.listed)) l.highest ≡ highest_of (rules_of l.leaves) l.listed

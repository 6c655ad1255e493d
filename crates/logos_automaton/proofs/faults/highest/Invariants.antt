use Rattle.std.proofs.Common.{◌≡◌, max, drop}
use Rattle.logos_automaton.specs.inside.TopSets.{highest_of}
use Rattle.logos_automaton.specs.View.{rules_of}
use Rattle.logos_automaton.proofs.faults.highest.Given as goal

-- the highest so far, with that of the rest, is the highest of all
abbrev pub invariant-loop-leaf : goal.invariant-loop-leaf
invariant-loop-leaf l = max (highest_of (rules_of l.rules) (drop l.leaf-index l.listed)) l.highest ≡ highest_of (rules_of l.rules) l.listed

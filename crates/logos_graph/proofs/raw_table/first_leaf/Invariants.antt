use Rattle.std.proofs.Common.{◌≡◌, drop}
use Rattle.logos_graph.specs.inside.First.{first_of}
use Rattle.logos_graph.specs.View.{rules_of}
use Rattle.logos_graph.proofs.RawLemmas.{joined}
use Rattle.logos_graph.proofs.raw_table.first_leaf.Given as goal

-- the best so far, with the first of the rest, is the first of all
abbrev pub invariant-loop-leaf : goal.invariant-loop-leaf
invariant-loop-leaf l = joined (rules_of l.leaves) l.best (first_of (rules_of l.leaves) (drop l.leaf-index l.listed)) ≡ first_of (rules_of l.leaves) l.listed

use Rattle.std.proofs.Common.{◌≡◌, bytes_eq, drop}
use Rattle.logos_automaton.specs.inside.TopSets.{with_priority, top_of}
use Rattle.logos_graph.specs.View.{rules_of}
use Rattle.logos_evidence.proofs.meetings.is_top.Given as goal

-- the rest of both lists decides
abbrev pub invariant-loop-leaf : goal.invariant-loop-leaf
invariant-loop-leaf l =
    bytes_eq (with_priority (rules_of l.leaves) l.highest (drop l.leaf-index l.listed)) l.rest ≡ bytes_eq (top_of (rules_of l.leaves) l.listed) l.set

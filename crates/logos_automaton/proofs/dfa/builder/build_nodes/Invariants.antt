use Rattle.std.proofs.Common.{◌-◌, map, vec_len}
use Rattle.logos_automaton.specs.Building.{IsUnderway}
use Rattle.logos_automaton.specs.inside.Prepared.{IsCacheOf}
use Rattle.logos_positions.specs.Node.{core_of}
use Rattle.logos_automaton.proofs.dfa.builder.build_nodes.Given as goal

abbrev pub invariant-loop-trees : goal.invariant-loop-trees
invariant-loop-trees l = record {
  cached : IsCacheOf l.trees l.cache;
  underway : IsUnderway (map core_of l.nodes) l.looks l.states.keys l.rows.items l.ends.items;
}

abbrev pub decreases-loop-trees : goal.decreases-loop-trees
decreases-loop-trees l = 65536 - vec_len l.rows

use Rattle.std.proofs.Common.{◌≡◌, map, vec_len}
use Rattle.logos_graph.specs.GraphView.{graph_state_of}
use Rattle.logos_graph.specs.inside.States.{AreStatesOf, HaveNumbers}
use Rattle.logos_graph.proofs.graph.states.states_of.Given as goal

abbrev pub invariant-loop-s : goal.invariant-loop-s
invariant-loop-s l = (vec_len l.states ≡ l.s) × AreStatesOf l.table (map graph_state_of l.states.items) × HaveNumbers l.before.items l.states.items

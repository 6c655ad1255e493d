use Rattle.std.proofs.Common.{length, arith}
use Rattle.std.proofs.lemmas.Iterator.Consumers.{YieldsList-turn}
use Rattle.logos_graph.specs.GraphView.{state_number}
use Rattle.logos_graph.proofs.IterationLemmas.{number_at, road}
use Rattle.logos_diagram.proofs.diagram.states_of.Goals as goal

pub get_state-requires : goal.get_state-requires
get_state-requires c =
    let t = YieldsList-turn (road (length c.args.graph.now.states) c.iter_states-state-items.ensures.states cc) c.loop-state.yielded _ c.loop-state.yielded_by _ _ c.in-Some.state c.in-Some.is c.next.ensures.steps in
    let n = number_at (length c.args.graph.now.states) (length c.loop-state.yielded) (state_number c.in-Some.state) t in
    omega (arith, n.0, n.1)

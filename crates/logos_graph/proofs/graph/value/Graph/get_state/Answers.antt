use Rattle.std.proofs.Common.{◌<◌, length, map, refl, sym, subst, arith}
use Rattle.std.proofs.lemmas.List.{length-map}
use Rattle.std.proofs.lemmas.Option.{slice_get_read}
use Rattle.logos_graph.specs.Backward.{AreBackward}
use Rattle.logos_graph.specs.GraphView.{graph_state_of, state_number}
use Rattle.logos_graph.specs.View.{GraphValue}
use Rattle.logos_graph.proofs.graph.value.Graph.get_state.Goals as goal

pub returns-clause-backward : goal.returns-clause-backward
returns-clause-backward c =
    let states = c.self.inside.states.items in
    let state = c.index.result.now in
    let within : c.args.state.0 < length (map graph_state_of states) = subst (λ (v : GraphValue). c.args.state.0 < length v.states) (sym c.self.view_is) c.requires in
    let at = slice_get_read states (length states) c.args.state.0 state refl (let n = length-map states graph_state_of in omega (arith, within, n)) c.index.ensures in
    subst (λ (v : GraphValue). AreBackward v.states c.args.state.0 (map state_number state.backward.items)) c.self.view_is
    (c.self.invariant.backward.each c.args.state.0 state at)

use Rattle.std.proofs.Common.{◌≡◌, ◌∙◌, ℕ, ◌+◌, ◌∷◌, ◌++◌, [], Some, ap, subst, length, take, slice_get, arith, length-append}
use Rattle.std.proofs.Math.Seq.{take-length}
use Rattle.std.proofs.lemmas.Iterator.Consumers.{YieldsList-turn, YieldsList-end}
use Rattle.std.proofs.lemmas.List.FromFn.{length-range_with_len}
use Rattle.logos_graph.specs.GraphView.{graph_state_of, state_number}
use Rattle.logos_graph.proofs.IterationLemmas.{number_at, road}
use Rattle.logos_evidence.proofs.ShownLemmas.{shown_more}
use Rattle.logos_evidence.proofs.graph_steps.states_of.Goals as goal

pub get_state-requires : goal.get_state-requires
get_state-requires c =
    let t = YieldsList-turn (road (length c.args.graph.now.states) c.iter_states-state-items.ensures.states cc) c.loop-state.yielded _ c.loop-state.yielded_by _ _ c.in-Some.state c.in-Some.is c.next.ensures.steps in
    let n = number_at (length c.args.graph.now.states) (length c.loop-state.yielded) (state_number c.in-Some.state) t in
    omega (arith, n.0, n.1)

pub loop-state-preserved : goal.loop-state-preserved
loop-state-preserved c =
    let t = YieldsList-turn (road (length c.args.graph.now.states) c.iter_states-state-items.ensures.states cc) c.loop-state.yielded _ c.loop-state.yielded_by _ _ c.in-Some.state c.in-Some.is c.next.ensures.steps in
    let n = number_at (length c.args.graph.now.states) (length c.loop-state.yielded) (state_number c.in-Some.state) t in
    let at : slice_get c.args.graph.now.states (length c.loop-state.yielded) ≡ Some (graph_state_of c.get_state.result.now) =
    subst (λ k. slice_get c.args.graph.now.states k ≡ Some (graph_state_of c.get_state.result.now)) n.0 c.get_state.ensures.state in
    let next : length (c.loop-state.yielded ++ c.in-Some.state ∷ []) ≡ length c.loop-state.yielded + 1 = length-append c.loop-state.yielded (c.in-Some.state ∷ []) in
    rw next (shown_more c.args.graph.now.states c.loop-state.states.items _ c.get_state.result (length c.loop-state.yielded) c.in_ok-push.ensures.items c.loop-state.invariant at)

pub returns-clause-states : goal.returns-clause-states
returns-clause-states c =
    let t = YieldsList-end (road (length c.args.graph.now.states) c.iter_states-state-items.ensures.states cc) c.loop-state.yielded _ c.loop-state.yielded_by _ _ c.in-None.is c.next.ensures.steps in
    let all = length-range_with_len 0 (length c.args.graph.now.states) in
    let whole : length c.loop-state.yielded ≡ length c.args.graph.now.states = t.1 ∙ all in
    c.loop-state.invariant ∙ ap (λ (n : ℕ). take n c.args.graph.now.states) whole ∙ take-length c.args.graph.now.states

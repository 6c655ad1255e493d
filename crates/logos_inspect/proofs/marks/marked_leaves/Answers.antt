use Rattle.std.proofs.Common.{◌≡◌, ◌∙◌, ℕ, ◌+◌, ◌∷◌, ◌++◌, [], List, Some, false, replicate, ap, subst, length, slice_get, arith, length-append}
use Rattle.std.proofs.lemmas.Iterator.Consumers.{YieldsList-turn, YieldsList-end}
use Rattle.std.proofs.lemmas.List.FromFn.{length-range_with_len}
use Rattle.logos_graph.specs.GraphView.{graph_state_of, state_number}
use Rattle.logos_graph.proofs.IterationLemmas.{number_at, road}
use Rattle.logos_pattern.specs.declared.leaf.Leaf.{Leaf}
use Rattle.logos_inspect.specs.inside.Steps.{AreMarksBelow}
use Rattle.logos_inspect.proofs.MarkLemmas.{no_marks, marks_turn, never_found}
use Rattle.logos_inspect.proofs.marks.marked_leaves.Goals as goal

pub get_state-requires : goal.get_state-requires
get_state-requires c =
    let t = YieldsList-turn (road (length c.args.graph.now.states) c.iter_states-state-items.ensures.states cc) c.loop-state.yielded _ c.loop-state.yielded_by _ _ c.in-Some.state c.in-Some.is c.next.ensures.steps in
    let n = number_at (length c.args.graph.now.states) (length c.loop-state.yielded) (state_number c.in-Some.state) t in
    omega (arith, n.0, n.1)

pub loop-state-init : goal.loop-state-init
loop-state-init c =
    let flags = c.in_ok-flags.ensures.items_if_clones_equal (λ y e. e) in
    no_marks c.args.graph.now.states (length c.args.graph.now.leaves) c.in_ok-flags.flags.items (flags ∙ ap (λ (leaves : List Leaf). replicate (length leaves) false) c.leaves.ensures)

pub loop-state-preserved : goal.loop-state-preserved
loop-state-preserved c =
    let t = YieldsList-turn (road (length c.args.graph.now.states) c.iter_states-state-items.ensures.states cc) c.loop-state.yielded _ c.loop-state.yielded_by _ _ c.in-Some.state c.in-Some.is c.next.ensures.steps in
    let n = number_at (length c.args.graph.now.states) (length c.loop-state.yielded) (state_number c.in-Some.state) t in
    let at : slice_get c.args.graph.now.states (length c.loop-state.yielded) ≡ Some (graph_state_of c.get_state.result.now) =
    subst (λ k. slice_get c.args.graph.now.states k ≡ Some (graph_state_of c.get_state.result.now)) n.0 c.get_state.ensures.state in
    let next : length (c.loop-state.yielded ++ c.in-Some.state ∷ []) ≡ length c.loop-state.yielded + 1 = length-append c.loop-state.yielded (c.in-Some.state ∷ []) in
    rw next (marks_turn c.args.graph.now.states (length c.loop-state.yielded) (graph_state_of c.get_state.result.now) at (length c.args.graph.now.leaves) c.loop-state.flags.items _
    c.loop-state.invariant c.add_marks.ensures.count c.add_marks.ensures.each)

pub returns : goal.returns
returns c =
    let t = YieldsList-end (road (length c.args.graph.now.states) c.iter_states-state-items.ensures.states cc) c.loop-state.yielded _ c.loop-state.yielded_by _ _ c.in-None.is c.next.ensures.steps in
    let all = length-range_with_len 0 (length c.args.graph.now.states) in
    let whole : length c.loop-state.yielded ≡ length c.args.graph.now.states = t.1 ∙ all in
    let are : AreMarksBelow c.args.graph.now.states (length c.args.graph.now.leaves) (length c.args.graph.now.states) c.loop-state.flags.items = rw whole at c.loop-state.invariant in
    record {
      count = are.length_is;
      marked = are.each;
      never = never_found c.args.graph.now c.loop-state.flags.items are;
    }

use Rattle.std.proofs.Common.{◌≡◌, ◌∙◌, ℕ, ◌+◌, List, ◌∷◌, ◌++◌, [], Some, All, ap, subst, length, slice_get, arith, length-append}
use Rattle.std.proofs.lemmas.Iterator.Consumers.{YieldsList-turn, YieldsList-end}
use Rattle.std.proofs.lemmas.List.FromFn.{length-range_with_len}
use Rattle.std.proofs.lemmas.Option.{get_or_from_slice_get, slice_get_within}
use Rattle.logos_graph.specs.Graph.{GraphState}
use Rattle.logos_graph.specs.GraphView.{graph_state_of, state_number}
use Rattle.logos_graph.proofs.IterationLemmas.{number_at, road}
use Rattle.logos_code.specs.CodeView.{state_of}
use Rattle.logos_generator.specs.Nodes.{IsStateOf}
use Rattle.logos_generator.specs.StateView.{IsCodable}
use Rattle.logos_generator.specs.Numbering.{numbered, state_uses, with_tables, fork_tables}
use Rattle.logos_generator.proofs.NodeLemmas.{states_turn}
use Rattle.logos_generator.proofs.NumberLemmas.{states_numbered, states_whole, states_tabled, states_all_tabled}
use Rattle.logos_generator.proofs.generator.states.states_of.Goals as goal

-- a property of all states holds of this one
codable_at : (graph : List GraphState) (k : ℕ) (state : GraphState) → All IsCodable graph → slice_get graph k ≡ Some state → IsCodable state
codable_at graph k state all e = rw (get_or_from_slice_get graph k state state e) at (all k state (slice_get_within graph k state e))

pub get_state-requires : goal.get_state-requires
get_state-requires c =
    let t = YieldsList-turn (road (length c.args.graph.now.states) c.requires.states cc) c.loop-state.yielded _ c.loop-state.yielded_by _ _ c.in-Some.state c.in-Some.is c.next.ensures.steps in
    let n = number_at (length c.args.graph.now.states) (length c.loop-state.yielded) (state_number c.in-Some.state) t in
    omega (arith, n.0, n.1)

pub state_made-requires : goal.state_made-requires
state_made-requires c = codable_at c.args.graph.now.states (state_number c.in-Some.state) _ c.requires.codable c.get_state.ensures.state

pub loop-state-preserved : goal.loop-state-preserved
loop-state-preserved c =
    let t = YieldsList-turn (road (length c.args.graph.now.states) c.requires.states cc) c.loop-state.yielded _ c.loop-state.yielded_by _ _ c.in-Some.state c.in-Some.is c.next.ensures.steps in
    let n = number_at (length c.args.graph.now.states) (length c.loop-state.yielded) (state_number c.in-Some.state) t in
    let made = c.in_ok-state_made.ensures in
    let here = subst (λ s. IsStateOf c.state_made.new.tables.tests.keys s (graph_state_of c.get_state.result.now) (state_of c.state_made.new.tables.jumps.keys c.in_ok-state_made.field-0)) (c.index.ensures ∙ n.0) made.is in
    let items = c.in_ok-push.ensures.items in
    let count = c.loop-state.invariant.count in
    let at : slice_get c.args.graph.now.states (length c.loop-state.yielded) ≡ Some (graph_state_of c.get_state.result.now) =
    subst (λ k. slice_get c.args.graph.now.states k ≡ Some (graph_state_of c.get_state.result.now)) n.0 c.get_state.ensures.state in
    let numbers = subst (λ s. c.state_made.new.tables.tests.keys ≡ numbered c.loop-state.tables.tests.keys (state_uses s (graph_state_of c.get_state.result.now).normal)) (c.index.ensures ∙ n.0) made.numbers in
    let tables = subst (λ s. c.state_made.new.tables.jumps.keys ≡ with_tables c.loop-state.tables.jumps.keys (fork_tables s (graph_state_of c.get_state.result.now).normal)) (c.index.ensures ∙ n.0) made.tables in
    let next : length (c.loop-state.yielded ++ c.in-Some.state ∷ []) ≡ length c.loop-state.yielded + 1 = length-append c.loop-state.yielded (c.in-Some.state ∷ []) in
    record {
      numbers = rw next (states_numbered c.args.graph.now.states (length c.loop-state.yielded) (graph_state_of c.get_state.result.now) _ _ _ at numbers c.loop-state.invariant.numbers);
      tables = rw next (states_tabled c.args.graph.now.states (length c.loop-state.yielded) (graph_state_of c.get_state.result.now) _ _ _ at tables c.loop-state.invariant.tables);
      count = ap length items ∙ omega (arith, length-append c.loop-state.made.items (c.in_ok-state_made.field-0 ∷ []), count, length-append c.loop-state.yielded (c.in-Some.state ∷ []));
      each = λ k state l e.
          states_turn c.loop-state.tables.tests.keys c.state_made.new.tables.tests.keys c.loop-state.tables.jumps.keys c.state_made.new.tables.jumps.keys made.tests made.jumps
          c.args.graph.now.states c.loop-state.made.items c.push.new.self.items (length c.loop-state.yielded) (graph_state_of c.get_state.result.now) c.in_ok-state_made.field-0
          count items at here c.loop-state.invariant.each k state (omega (arith, l, length-append c.loop-state.yielded (c.in-Some.state ∷ []))) e;
    }

pub returns-clause-numbers : goal.returns-clause-numbers
returns-clause-numbers c =
    let t = YieldsList-end (road (length c.args.graph.now.states) c.requires.states cc) c.loop-state.yielded _ c.loop-state.yielded_by _ _ c.in-None.is c.next.ensures.steps in
    let all = length-range_with_len 0 (length c.args.graph.now.states) in
    states_whole c.args.graph.now.states (length c.loop-state.yielded) _ _ (omega (arith, t.1, all)) c.loop-state.invariant.numbers

pub returns-clause-tables : goal.returns-clause-tables
returns-clause-tables c =
    let t = YieldsList-end (road (length c.args.graph.now.states) c.requires.states cc) c.loop-state.yielded _ c.loop-state.yielded_by _ _ c.in-None.is c.next.ensures.steps in
    let all = length-range_with_len 0 (length c.args.graph.now.states) in
    states_all_tabled c.args.graph.now.states (length c.loop-state.yielded) _ _ (omega (arith, t.1, all)) c.loop-state.invariant.tables

pub returns-clause-are : goal.returns-clause-are
returns-clause-are c =
    let t = YieldsList-end (road (length c.args.graph.now.states) c.requires.states cc) c.loop-state.yielded _ c.loop-state.yielded_by _ _ c.in-None.is c.next.ensures.steps in
    let all = length-range_with_len 0 (length c.args.graph.now.states) in
    record {
      count = c.loop-state.invariant.count ∙ t.1 ∙ all;
      each = λ k state e. c.loop-state.invariant.each k state (let w = slice_get_within c.args.graph.now.states k state e in omega (arith, w, t.1, all)) e;
    }

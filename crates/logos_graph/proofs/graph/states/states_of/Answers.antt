use Rattle.std.proofs.Common.{◌≡◌, ◌∷◌, [], map, length, ap, sym, subst, ◌∙◌, arith}
use Rattle.std.proofs.lemmas.List.{map-append, length-map}
use Rattle.logos_graph.specs.GraphView.{graph_state_of, state_number}
use Rattle.logos_graph.specs.inside.States.{HaveNumbers}
use Rattle.logos_reduce.specs.Table.{size}
use Rattle.logos_graph.proofs.BackwardLemmas.{numbered_at, more_numbered, numbered_backward}
use Rattle.logos_graph.proofs.StateLemmas.{states_more, program_neat, states_show, states_neat, states_finished}
use Rattle.logos_graph.proofs.graph.states.states_of.Goals as goal

pub loop-s-preserved : goal.loop-s-preserved
loop-s-preserved c =
    let table = c.args.table.now in
    let old = c.loop-s.states.items in
    let state = c.in_ok-state_of.field-0 in
    let e = ap (map graph_state_of) c.in_ok-push.ensures.items ∙ map-append graph_state_of old (state ∷ []) in
    let n : length (map graph_state_of old) ≡ c.loop-s.s = let m = length-map old graph_state_of in omega (arith, c.loop-s.invariant.0) in (
      omega (arith, c.in_ok-push.ensures.len, c.loop-s.invariant.0),
      rw e (states_more table (map graph_state_of old) (graph_state_of state) c.loop-s.s n c.loop-s.invariant.1 c.in_ok-state_of.ensures.state),
      subst (HaveNumbers c.in_ok-before.before.items) (sym c.in_ok-push.ensures.items) (more_numbered c.in_ok-before.before.items old state c.loop-s.s (let m = length-map old graph_state_of in omega (arith, m, n))
          (numbered_at c.in_ok-before.before.items c.loop-s.s c.index.result.now (map state_number state.backward.items)
          (omega (arith, c.in_ok-before.before.ok.0, c.in_ok-before.ensures.len)) c.index.ensures (c.in_ok-state_of.ensures.backward ∙ c.deref.ensures.value)) c.loop-s.invariant.2),
    )

pub returns-clause-shows : goal.returns-clause-shows
returns-clause-shows c =
    let len : length (map graph_state_of c.loop-s.states.items) ≡ size c.args.table.now = let e = length-map c.loop-s.states.items graph_state_of in omega arith in
    states_show c.args.table.now (map graph_state_of c.loop-s.states.items) len c.loop-s.invariant.1

pub returns-clause-neat : goal.returns-clause-neat
returns-clause-neat c =
    let len : length (map graph_state_of c.loop-s.states.items) ≡ size c.args.table.now = let e = length-map c.loop-s.states.items graph_state_of in omega arith in
    program_neat c.loop-s.states.items (states_neat c.args.table.now (map graph_state_of c.loop-s.states.items) len c.loop-s.invariant.1)

pub returns-clause-finished : goal.returns-clause-finished
returns-clause-finished c =
    let len : length (map graph_state_of c.loop-s.states.items) ≡ size c.args.table.now = let e = length-map c.loop-s.states.items graph_state_of in omega arith in
    λ leaves fit. states_finished c.args.table.now (map graph_state_of c.loop-s.states.items) len c.loop-s.invariant.1 leaves fit

pub returns-clause-backward : goal.returns-clause-backward
returns-clause-backward c =
    let states = c.loop-s.states.items in
    let len : length (map graph_state_of states) ≡ size c.args.table.now = let e = length-map states graph_state_of in omega arith in
    numbered_backward c.args.table.now states (states_show c.args.table.now (map graph_state_of states) len c.loop-s.invariant.1)
    c.in_ok-before.before.items (omega (arith, c.in_ok-before.before.ok.0, c.in_ok-before.ensures.len)) c.in_ok-before.ensures.lists c.in_ok-before.ensures.rising c.loop-s.invariant.2

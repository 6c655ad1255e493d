use Rattle.std.proofs.Common.{string_bytes, arith}
use Rattle.logos_graph.proofs.DiagramLemmas.{state_added, states_added}
use Rattle.logos_graph.proofs.graph.mermaid.diagram.Goals as goal

pub loop-s-preserved : goal.loop-s-preserved
loop-s-preserved c =
    state_added c.args.states.now c.loop-s.s c.index-states-s.result _ (string_bytes c.loop-s.text) (string_bytes c.push_state.new.text) (omega arith)
    c.index-states-s.is c.in_ok-push_state.ensures c.loop-s.invariant

pub returns : goal.returns
returns c = states_added c.args.states.now c.loop-s.s _ (string_bytes c.loop-s.text) (omega arith) c.loop-s.invariant

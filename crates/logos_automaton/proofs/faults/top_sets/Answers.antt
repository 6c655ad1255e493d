use Rattle.std.proofs.Common.{arith}
use Rattle.logos_automaton.specs.DfaView.{dfa_of}
use Rattle.logos_automaton.specs.View.{rules_of}
use Rattle.logos_automaton.proofs.ambiguity.TopLemmas.{top_more, top_below_all}
use Rattle.logos_automaton.proofs.faults.top_sets.Goals as goal

pub loop-state-preserved : goal.loop-state-preserved
loop-state-preserved c =
    top_more (rules_of c.args.rules.now) _ _ (dfa_of c.args.dfa.now).matches c.loop-state.state c.leaves_at.result.now c.leaves_at.ensures c.loop-state.invariant c.in_ok-add_top_set.ensures

pub returns : goal.returns
returns c = top_below_all (rules_of c.args.rules.now) _ (dfa_of c.args.dfa.now).matches c.loop-state.state (omega arith) c.loop-state.invariant

use Rattle.std.proofs.Common.{None, length, arith}
use Rattle.logos_automaton.specs.DfaView.{dfa_of}
use Rattle.logos_graph.specs.inside.RawTable.{IsMarkOf}
use Rattle.logos_graph.specs.View.{rules_of}
use Rattle.logos_reduce.proofs.tables.PushLemmas.{pushed}
use Rattle.logos_graph.proofs.raw_table.raw_marks.Goals as goal

pub loop-state-preserved : goal.loop-state-preserved
loop-state-preserved c = (
  omega (arith, c.in_ok-push.ensures.len),
  pushed (IsMarkOf (rules_of c.args.leaves.now) (length c.args.leaves.now) (dfa_of c.args.dfa.now)) c.loop-state.marks.items c.push.new.self.items c.raw_mark.result (record { accept = None; early = None }) c.loop-state.state
      c.in_ok-push.ensures.items (omega arith) c.loop-state.invariant.1 (c.leaves_at.result.now, c.leaves_at.ensures, c.raw_mark.ensures),
)

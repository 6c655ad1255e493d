use Rattle.std.proofs.Common.{arith}
use Rattle.logos_automaton.specs.DfaView.{dfa_of}
use Rattle.logos_html.proofs.EnoughLemmas.{one_more_byte}
use Rattle.logos_html.proofs.prefixes.enough_bytes.Goals as goal

pub loop-count-preserved : goal.loop-count-preserved
loop-count-preserved c =
    let next = c.next_state-state.ensures in
    record {
      within = next.within;
      after = one_more_byte (dfa_of c.args.dfa.now) c.args.rest.now c.loop-count.count c.loop-count.state.0 c.next_state-state.result.0 (omega (arith, c.loop-count-test.true, c.min-count-end.ensures))
          c.loop-count.invariant.after next.next;
    }

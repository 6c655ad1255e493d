use Rattle.std.proofs.Common.{◌≡◌, ◌++◌, ◌<◌, Some, drop, length}
use Rattle.logos_automaton.specs.DfaView.{dfa_of}
use Rattle.logos_automaton.specs.Munch.{priority_of}
use Rattle.logos_graph.specs.View.{rules_of}
use Rattle.logos_evidence.specs.inside.Listed.{listed}
use Rattle.logos_evidence.proofs.matches.matches_from.Given as goal

-- the matches of the rest complete the matches of the whole
abbrev pub invariant-loop-end : goal.invariant-loop-end
invariant-loop-end l = record {
  within : l.state.0 < length (dfa_of l.dfa).matches;
  rest : l.found.items ++ listed (dfa_of l.dfa) (priority_of (rules_of l.graph.leaves)) l.end (Some l.state.0) (drop l.end l.input)
      ≡ listed (dfa_of l.dfa) (priority_of (rules_of l.graph.leaves)) l.from (Some (dfa_of l.dfa).start) (drop l.from l.input);
}

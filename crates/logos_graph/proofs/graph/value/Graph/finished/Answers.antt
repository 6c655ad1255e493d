use Rattle.std.proofs.Common.{length, map, ap, refl}
use Rattle.logos_automaton.specs.Errors.{fault_of}
use Rattle.logos_graph.proofs.graph.value.Graph.finished.Goals as goal

pub invariant_of-result : goal.invariant_of-result
invariant_of-result c = record {
  shown = (c.in_ok-states.ensures.shows, c.requires.evidence);
  has_table = λ e. refl;
  finished = λ e. c.in_ok-states.ensures.finished (length c.args.leaves.items) c.requires.fit;
  backward = c.in_ok-states.ensures.backward;
  bare = λ some. absurd (some (ap (map fault_of) c.new.ensures.items));
}

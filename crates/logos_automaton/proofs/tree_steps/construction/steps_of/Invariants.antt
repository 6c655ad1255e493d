use Rattle.std.proofs.Common.{◌≡◌, ◌≤◌, length, vec_len}
use Rattle.logos_automaton.specs.inside.Steps.{AreStepsFrom, tree_view}
use Rattle.logos_automaton.proofs.tree_steps.construction.steps_of.Given as goal

abbrev pub invariant-loop-byte : goal.invariant-loop-byte
invariant-loop-byte l = record {
  size : length l.by_byte ≡ 256;
  few : vec_len l.found ≤ l.byte;
  steps : AreStepsFrom l.trees.nodes.now l.trees.starts.now (tree_view l.state) l.found.items l.by_byte l.byte;
}

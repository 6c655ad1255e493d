use Rattle.std.proofs.Common.{◌≡◌, ℕ, ◌<◌, ◌≤◌, slice_index}
use Rattle.logos_graph.proofs.graph.states.run_end.Given as goal

abbrev pub invariant-loop-i : goal.invariant-loop-i
invariant-loop-i l = (b : ℕ) → l.from ≤ b → b < l.i → slice_index l.row b ≡ slice_index l.row l.from

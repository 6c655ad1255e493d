use Rattle.std.proofs.Common.{length}
use Rattle.logos_inspect.specs.inside.Steps.{AreMarksBelow}
use Rattle.logos_inspect.proofs.marks.marked_leaves.Given as goal

-- the flags are those of the states so far
abbrev pub invariant-loop-state : goal.invariant-loop-state
invariant-loop-state l = AreMarksBelow l.graph.states (length l.graph.leaves) (length l.yielded) l.flags.items

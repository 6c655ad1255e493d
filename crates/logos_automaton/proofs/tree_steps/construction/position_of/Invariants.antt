use Rattle.std.proofs.Common.{◌-◌, ◌≤◌, length}
use Rattle.logos_automaton.proofs.tree_steps.construction.position_of.Given as goal

abbrev pub invariant-loop-i : goal.invariant-loop-i
invariant-loop-i l = l.i ≤ length l.found

abbrev pub decreases-loop-i : goal.decreases-loop-i
decreases-loop-i l = length l.found - l.i

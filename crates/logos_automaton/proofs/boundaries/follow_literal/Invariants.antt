use Rattle.std.proofs.Common.{◌≡◌, ◌+◌, ◌-◌, ◌<◌, ◌≤◌, ◌==◌, length, slice_index}
use Rattle.logos_positions.specs.Marks.{Has}
use Rattle.logos_automaton.proofs.keys.WalkLemmas.{AreDone}
use Rattle.logos_automaton.proofs.boundaries.follow_literal.Given as goal

abbrev pub invariant-loop-done : goal.invariant-loop-done
invariant-loop-done l = record {
  within : l.done ≤ length l.text;
  done : AreDone (λ k x y. Has l.marks (l.base + k) → k + 1 < length l.text → (x == slice_index l.text (k + 1)) ≡ (y == slice_index l.text (k + 1))) l.initial.marked l.marked l.done;
}

abbrev pub decreases-loop-done : goal.decreases-loop-done
decreases-loop-done l = length l.text - l.done

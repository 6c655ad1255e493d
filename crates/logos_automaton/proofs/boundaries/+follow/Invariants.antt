use Rattle.std.proofs.Common.{ℕ, ◌+◌, ◌-◌, ◌*◌, ◌<◌, ◌≤◌, IsTrue}
use Rattle.logos_automaton.specs.inside.Alike.{GoesAlike, MayLeave}
use Rattle.logos_positions.specs.Marks.{Has}
use Rattle.logos_positions.specs.Node.{core_of}
use Rattle.logos_automaton.proofs.keys.WalkLemmas.{AreDone}
use Rattle.logos_automaton.proofs.boundaries.+follow.Given as goal

abbrev pub invariant-follow_copies-loop-done : goal.invariant-follow_copies-loop-done
invariant-follow_copies-loop-done l = record {
  within : l.done ≤ l.copies.count;
  done : AreDone (λ k x y. GoesAlike (core_of l.body) (λ q. Has l.marks (l.copies.base + l.copies.each * k + q)) x y) l.initial.marked l.marked l.done;
  leaves : (k : ℕ) → k < l.done → MayLeave (core_of l.body) (λ q. Has l.marks (l.copies.base + l.copies.each * k + q)) → IsTrue l.any;
}

abbrev pub decreases-follow_copies-loop-done : goal.decreases-follow_copies-loop-done
decreases-follow_copies-loop-done l = l.copies.count - l.done

use Rattle.std.proofs.Common.{◌+◌, ◌-◌, ◌*◌, ◌≤◌, false}
use Rattle.logos_positions.specs.Core.{Core}
use Rattle.logos_positions.specs.Kinds.{test_at}
use Rattle.logos_positions.specs.Node.{core_of}
use Rattle.logos_positions.specs.Repeat.{in_front, up_to}
use Rattle.logos_positions.specs.inside.Stepped.{Owes}
use Rattle.logos_positions.proofs.positions.step.+step.Given as goal

abbrev pub invariant-step_copies-loop-done : goal.invariant-step_copies-loop-done
invariant-step_copies-loop-done l = record {
  within : l.done ≤ l.copies.count;
  owes : (b : Core) → Owes (in_front l.copies.count (core_of l.body) b) (in_front (l.copies.count - l.done) (core_of l.body) b)
      (test_at l.by.at) l.by.byte l.by.marks.now l.initial.next.items l.next.items l.copies.base (l.copies.base + l.copies.each * l.done) l.copies.entered l.left false;
}

abbrev pub invariant-step_up_to-loop-done : goal.invariant-step_up_to-loop-done
invariant-step_up_to-loop-done l = record {
  within : l.done ≤ l.copies.count;
  owes : Owes (up_to l.copies.count (core_of l.body)) (up_to (l.copies.count - l.done) (core_of l.body))
      (test_at l.by.at) l.by.byte l.by.marks.now l.initial.next.items l.next.items l.copies.base (l.copies.base + l.copies.each * l.done) l.copies.entered l.left l.any;
}

abbrev pub decreases-step_copies-loop-done : goal.decreases-step_copies-loop-done
decreases-step_copies-loop-done l = l.copies.count - l.done

abbrev pub decreases-step_up_to-loop-done : goal.decreases-step_up_to-loop-done
decreases-step_up_to-loop-done l = l.copies.count - l.done

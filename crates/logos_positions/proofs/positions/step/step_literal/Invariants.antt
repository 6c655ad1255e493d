use Rattle.std.proofs.Common.{◌+◌, ◌-◌, ◌≤◌, Bool, false, length, drop}
use Rattle.logos_positions.specs.Repeat.{spelled}
use Rattle.logos_positions.specs.inside.Stepped.{Owes}
use Rattle.logos_hir.specs.declared.hir.Look.{Look}
use Rattle.logos_positions.proofs.positions.step.step_literal.Given as goal

abbrev pub invariant-loop-done : goal.invariant-loop-done
invariant-loop-done l = record {
  within : l.done ≤ length l.text;
  owes : (test : Look → Bool) → Owes (spelled l.text) (spelled (drop l.done l.text)) test l.by.byte l.by.marks.now l.fn.next.items l.next.items l.spot.base (l.spot.base + l.done) l.spot.entered l.left false;
}

abbrev pub decreases-loop-done : goal.decreases-loop-done
decreases-loop-done l = length l.text - l.done

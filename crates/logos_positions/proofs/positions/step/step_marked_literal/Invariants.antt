use Rattle.std.proofs.Common.{◌-◌, ◌≤◌}
use Rattle.logos_positions.specs.Marks.{IsRising}
use Rattle.logos_positions.proofs.steps.LiteralLemmas.{Comes}
use Rattle.logos_positions.proofs.positions.step.step_marked_literal.Given as goal

abbrev pub invariant-loop-i : goal.invariant-loop-i
invariant-loop-i l = record {
  after : l.own.from ≤ l.i;
  within : l.i ≤ l.own.to;
  rising : IsRising l.next.items;
  comes : Comes l.by.byte l.by.marks.now l.fn.next.items l.next.items l.text l.own.base l.own.from l.i;
}

abbrev pub decreases-loop-i : goal.decreases-loop-i
decreases-loop-i l = l.own.to - l.i

use Rattle.std.proofs.Common.{◌+◌, ◌-◌, length}
use Rattle.logos_positions.specs.Marks.{IsSet}
use Rattle.logos_positions.specs.Table.{reader_of}
use Rattle.logos_positions.proofs.steps.CharStepLemmas.{FollowedTo, StartsFrom}
use Rattle.logos_positions.proofs.positions.step.step_characters.Given as goal

abbrev pub invariant-loop-i : goal.invariant-loop-i
invariant-loop-i l = record {
  starts : StartsFrom l.by.marks.now l.fn.spot.base l.i;
  set : IsSet l.next.items (l.fn.spot.base + l.table.rows);
  followed : FollowedTo (reader_of l.table) l.by.byte l.by.marks.now l.fn.next.items l.next.items l.fn.spot.base l.fn.spot.entered l.i;
}

abbrev pub decreases-loop-i : goal.decreases-loop-i
decreases-loop-i l = length l.by.marks.now - l.i

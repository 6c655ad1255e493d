use Rattle.std.proofs.Common.{◌≡◌, ◌-◌, ◌*◌, ◌/◌, ◌≤◌, length}
use Rattle.logos_machine.specs.inside.Looks.{Comes}
use Rattle.logos_machine.proofs.machine.walk.walk.Given as goal

-- a continuation from here is the whole attempt
abbrev pub invariant-loop-at : goal.invariant-loop-at
invariant-loop-at l = record {
  comes : Comes l.code l.input l.start (l.row_start / 272) l.at l.before;
  row_start : 272 * (l.row_start / 272) ≡ l.row_start;
  within : l.at ≤ length l.input;
}

abbrev pub decreases-loop-at : goal.decreases-loop-at
decreases-loop-at l = length l.input - l.at

use Rattle.std.proofs.Common.{◌≡◌, ◌+◌, false}
use Rattle.logos_reduce.specs.Rows.{AreSame}
use Rattle.logos_reduce.proofs.rows.are_same.Given as goal

abbrev pub invariant-loop-i : goal.invariant-loop-i
invariant-loop-i l = l.differ ≡ false → AreSame l.row l.other l.from (l.from + l.i)

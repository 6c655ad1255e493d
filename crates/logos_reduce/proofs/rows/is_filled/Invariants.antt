use Rattle.std.proofs.Common.{◌≡◌, ◌+◌, false}
use Rattle.logos_reduce.specs.Rows.{HasOnly}
use Rattle.logos_reduce.proofs.rows.is_filled.Given as goal

abbrev pub invariant-loop-i : goal.invariant-loop-i
invariant-loop-i l = l.differs ≡ false → HasOnly l.row l.from (l.from + l.i) l.entry

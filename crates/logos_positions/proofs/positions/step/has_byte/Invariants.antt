use Rattle.std.proofs.Common.{◌≡◌, drop}
use Rattle.logos_hir.specs.Hir.{pairs}
use Rattle.logos_hir.specs.ByteRanges.{is_in}
use Rattle.logos_positions.proofs.positions.step.has_byte.Given as goal

abbrev pub invariant-loop-range : goal.invariant-loop-range
invariant-loop-range l = is_in (pairs (drop l.range-index l.ranges)) l.byte ≡ is_in (pairs l.ranges) l.byte

use Rattle.std.proofs.Common.{◌≡◌, ℕ, ◌||◌, drop}
use Rattle.logos_hir.specs.ByteRanges.{is_in}
use Rattle.logos_hir.specs.Hir.{pairs}
use Rattle.logos_positions.proofs.preparation.classes.union.Given as goal

abbrev pub invariant-loop-range : goal.invariant-loop-range
invariant-loop-range l = (x : ℕ) → (is_in (pairs l.ranges.items) x || is_in (pairs (drop l.range-index l.other)) x) ≡ (is_in (pairs l.one) x || is_in (pairs l.other) x)

use Rattle.std.proofs.Common.{◌≡◌, ℕ, ◌+◌, ◌<◌, false, drop, slice_index_or}
use Rattle.logos_hir.specs.ByteRanges.{is_in}
use Rattle.logos_hir.specs.Hir.{pairs}
use Rattle.logos_automaton.proofs.byte_equivalence.mark_ranges.Given as goal

abbrev pub invariant-loop-range : goal.invariant-loop-range
invariant-loop-range l = (x : ℕ) → x + 1 < 256 → slice_index_or l.marked (x + 1) false ≡ false → (slice_index_or l.initial.marked (x + 1) false ≡ false)
    × (is_in (pairs (drop l.range-index l.ranges)) x ≡ is_in (pairs (drop l.range-index l.ranges)) (x + 1) → is_in (pairs l.ranges) x ≡ is_in (pairs l.ranges) (x + 1))

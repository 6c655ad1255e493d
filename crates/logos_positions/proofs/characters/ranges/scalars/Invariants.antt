use Rattle.std.proofs.Common.{◌≡◌, ℕ, ◌||◌, drop}
use Rattle.logos_hir.specs.Hir.{pairs}
use Rattle.logos_positions.specs.inside.Reader.{is_char_in}
use Rattle.logos_positions.specs.inside.Ranges.{in_ranges}
use Rattle.logos_positions.proofs.characters.ranges.scalars.Given as goal

abbrev pub invariant-loop-range : goal.invariant-loop-range
invariant-loop-range l =
    (c : ℕ) → (in_ranges l.out.items c || is_char_in (pairs (drop l.range-index l.ranges)) c) ≡ is_char_in (pairs l.ranges) c

use Rattle.std.proofs.Common.{◌≡◌, ℕ, true, ◌||◌, drop}
use lib.Utf8.{scalar}
use Rattle.logos_hir.specs.Hir.{pairs}
use Rattle.logos_hir.specs.Sets.{in_ranges}
use Rattle.logos_hir.specs.inside.SetSteps.{AreRanges}
use Rattle.logos_hir.proofs.sets.chars_of.Given as goal

-- the ranges so far, with those that are left, have the members of all
abbrev pub invariant-loop-range : goal.invariant-loop-range
invariant-loop-range l = record {
  ranges : AreRanges (pairs l.out.items);
  members : (c : ℕ) → scalar c ≡ true → (in_ranges (pairs l.out.items) c || in_ranges (pairs (drop l.range-index l.ranges)) c) ≡ in_ranges (pairs l.ranges) c;
}

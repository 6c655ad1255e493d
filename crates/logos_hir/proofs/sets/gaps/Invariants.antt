use Rattle.std.proofs.Common.{◌≡◌, ℕ, ◌≤◌, true, ◌&&◌, ◌||◌, not, nat_le, drop}
use lib.Utf8.{scalar}
use Rattle.logos_hir.specs.Hir.{pairs}
use Rattle.logos_hir.specs.Sets.{AreCanonical, in_ranges}
use Rattle.logos_hir.specs.inside.SetSteps.{IsLimit, free_from}
use Rattle.logos_hir.proofs.sets.gaps.Given as goal

-- the result, with the numbers that the remaining ranges leave out from here on, is all that the
-- ranges leave out
abbrev pub invariant-loop-range : goal.invariant-loop-range
invariant-loop-range l = record {
  limit : IsLimit l.first;
  canonical : AreCanonical (pairs l.out.items);
  free : free_from 0 (pairs l.out.items) ≤ l.first;
  members : (c : ℕ) → scalar c ≡ true →
      (in_ranges (pairs l.out.items) c || (nat_le l.first c && (nat_le c l.last && not (in_ranges (pairs (drop l.range-index l.ranges)) c))))
      ≡ (nat_le c l.last && not (in_ranges (pairs l.ranges) c));
}

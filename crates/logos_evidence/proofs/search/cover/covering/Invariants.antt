use Rattle.std.proofs.Common.{◌≡◌, ℕ, ◌≤◌, Some, length, slice_get}
use Rattle.logos_evidence.specs.search.inside.Covers.{AreCoveredAt, CoversSteps}
use Rattle.logos_evidence.specs.declared.search.visits.PendingPoint.{PendingPoint}
use Rattle.logos_evidence.proofs.search.cover.covering.Given as goal

-- the steps from the pending points with higher numbers are covered
abbrev pub invariant-loop-number : goal.invariant-loop-number
invariant-loop-number g l = record {
  within : l.number ≤ length l.explored.visits.points.keys;
  cover : CoversSteps (g.M.Machine.leads l.machine) l.explored l.cover;
  covered : (i : ℕ) (at : PendingPoint) → l.number ≤ i → slice_get l.explored.visits.points.keys i ≡ Some at →
      AreCoveredAt (g.M.Machine.leads l.machine) (g.M.Machine.goal l.machine) l.explored.utf8 l.cover.steps.keys at;
}

abbrev pub decreases-loop-number : goal.decreases-loop-number
decreases-loop-number g l = l.number

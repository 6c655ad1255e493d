use Rattle.std.proofs.Common.{◌≡◌, ℕ, ◌+◌, ◌<◌, All, Option, Some, length, reverse, slice_get}
use Rattle.logos_evidence.specs.search.Machines.{after}
use Rattle.logos_evidence.specs.search.inside.Visits.{IsTree, depth_at}
use Rattle.logos_evidence.specs.declared.search.visits.PendingPoint.{PendingPoint}
use Rattle.logos_evidence.proofs.search.visits.way_to.Given as goal

-- the bytes so far, last first, lead on from the pending point
abbrev pub invariant-loop-at : goal.invariant-loop-at
invariant-loop-at l = record {
  there : l.at < length l.visits.ways.items;
  are_bytes : (next : PendingPoint → ℕ → Option PendingPoint) → IsTree next l.visits.points.keys l.visits.ways.items → All (λ b. b < 256) l.bytes.items;
  size : (next : PendingPoint → ℕ → Option PendingPoint) → IsTree next l.visits.points.keys l.visits.ways.items →
      length l.bytes.items + depth_at l.visits.ways.items l.at ≡ depth_at l.visits.ways.items l.number;
  way : (next : PendingPoint → ℕ → Option PendingPoint) (from to : PendingPoint) → IsTree next l.visits.points.keys l.visits.ways.items →
      slice_get l.visits.points.keys l.at ≡ Some from → slice_get l.visits.points.keys l.number ≡ Some to →
      after next from (reverse l.bytes.items) ≡ Some to;
}

abbrev pub decreases-loop-at : goal.decreases-loop-at
decreases-loop-at l = l.at

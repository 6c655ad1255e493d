use Rattle.std.proofs.Common.{◌≡◌, ◌+◌, ◌-◌, ◌^◌, ◌<◌, ◌≤◌, Some, length, slice_get}
use Rattle.logos_evidence.specs.search.Rests.{more}
use Rattle.logos_evidence.specs.search.inside.PendingPoints.{pending_at, pending_next}
use Rattle.logos_evidence.specs.search.inside.Visits.{IsTree, IsWithin, IsClosed, depth_at}
use Rattle.logos_evidence.proofs.search.cover.explore.Given as goal

-- the points to which those with lower numbers lead were visited
abbrev pub invariant-loop-number : goal.invariant-loop-number
invariant-loop-number g l = record {
  passed : l.number ≤ length l.visits.points.keys;
  first : slice_get l.visits.points.keys 0 ≡ Some (pending_at l.start (more 0));
  tree : IsTree (pending_next (g.M.Machine.leads l.machine) l.utf8) l.visits.points.keys l.visits.ways.items;
  within : l.number < length l.visits.points.keys →
      IsWithin (pending_next (g.M.Machine.leads l.machine) l.utf8) l.visits.points.keys l.visits.ways.items (depth_at l.visits.ways.items l.number + 1);
  closed : IsClosed (pending_next (g.M.Machine.leads l.machine) l.utf8) l.visits.points.keys l.visits.ways.items l.number;
}

abbrev pub decreases-loop-number : goal.decreases-loop-number
decreases-loop-number g l = 2 ^ 63 - l.number

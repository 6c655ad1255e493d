use Rattle.std.proofs.Common.{◌≡◌, ℕ, ◌<◌, Some}
use Rattle.logos_evidence.specs.search.inside.Order.{IsByteAt}
use Rattle.logos_evidence.specs.search.inside.PendingPoints.{pending_next}
use Rattle.logos_evidence.specs.search.inside.Visits.{IsTree, IsWithin, Grows, IsMet}
use Rattle.logos_evidence.specs.declared.search.visits.PendingPoint.{PendingPoint}
use Rattle.logos_evidence.proofs.search.visits.meet_all.Given as goal

-- the points to which the bytes so far lead were visited
abbrev pub invariant-loop-site : goal.invariant-loop-site
invariant-loop-site g l = record {
  tree : IsTree (pending_next (g.M.Machine.leads l.machine) l.utf8) l.visits.points.keys l.visits.ways.items;
  within : IsWithin (pending_next (g.M.Machine.leads l.machine) l.utf8) l.visits.points.keys l.visits.ways.items l.depth;
  grows : Grows l.initial.visits.points.keys l.initial.visits.ways.items l.visits.points.keys l.visits.ways.items;
  met : (site b : ℕ) (to : PendingPoint) → site < l.site → IsByteAt site b → pending_next (g.M.Machine.leads l.machine) l.utf8 l.at b ≡ Some to →
      IsMet l.visits.points.keys l.visits.ways.items to l.depth;
}

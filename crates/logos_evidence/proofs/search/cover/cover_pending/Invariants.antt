use Rattle.std.proofs.Common.{◌≡◌, ℕ, ◌<◌, Some, slice_get}
use Rattle.logos_evidence.specs.search.inside.Covers.{CoversSteps, HasStepsOf, IsCoveredBy}
use Rattle.logos_evidence.specs.search.inside.Order.{IsByteAt}
use Rattle.logos_evidence.specs.declared.search.visits.PendingPoint.{PendingPoint}
use Rattle.logos_evidence.proofs.search.cover.cover_pending.Given as goal

-- the steps that the bytes so far make are covered
abbrev pub invariant-loop-site : goal.invariant-loop-site
invariant-loop-site g l = record {
  cover : CoversSteps (g.M.Machine.leads l.machine) l.explored l.cover;
  grows : HasStepsOf l.initial.cover l.cover;
  covered : (site b : ℕ) (at : PendingPoint) → site < l.site → IsByteAt site b → slice_get l.explored.visits.points.keys l.number ≡ Some at →
      IsCoveredBy (g.M.Machine.leads l.machine) l.explored.utf8 l.cover.steps.keys at b;
}

-- Definitions that contracts cite, and that name types of this crate.
pub use Rattle.logos_evidence.specs.search.Covering.{AreCovering, end_at}
pub use Rattle.logos_evidence.specs.search.Rests.{more}
pub use Rattle.logos_evidence.specs.declared.search.steps.InputStep.{InputStep}
pub use Rattle.logos_evidence.specs.declared.search.visits.PendingPoint.{PendingPoint}
pub use Rattle.logos_evidence.specs.search.inside.Covers.{Adds}
pub use Rattle.logos_evidence.specs.search.inside.PendingPoints.{pending_goal}
pub use Rattle.logos_evidence.specs.search.inside.Visits.{GoDown}
pub use Rattle.logos_evidence.specs.search.Shortest.{IsShortest, NoneLeads}

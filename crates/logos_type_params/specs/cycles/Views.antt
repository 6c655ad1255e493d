-- Definitions that contracts cite: those of `Imports`, and those that name types of this crate.
pub use Rattle.logos_type_params.specs.cycles.Imports.{Leads, Reaches, slice_get, targets_of}
pub use Rattle.logos_type_params.specs.cycles.inside.Memberships.{ComesFrom, Edge, FollowAll, Follows, GoesToward, HasInner, HasRoot, IsEvidence, IsPlaced, graph}

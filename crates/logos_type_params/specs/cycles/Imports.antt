-- Definitions that contracts cite: those of lower crates, and those of this crate that name none of
-- its types.
pub use Rattle.std.specs.List.{slice_get}
pub use Rattle.logos_type_params.specs.cycles.Cycles.{Leads, targets_of}
pub use Rattle.logos_type_params.specs.cycles.inside.Traversals.{Reaches}

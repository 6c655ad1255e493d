-- Definitions that contracts cite: those of `Imports`, and those that name types of this crate.
pub use Rattle.logos_inspect.specs.Imports.{held, location_at}
pub use Rattle.logos_inspect.specs.Costs.{costs}
pub use Rattle.logos_inspect.specs.Leaves.{IsRowOf, IsTextAt, ShowsCallback, default_priority, held_priority, moved, variant_name}

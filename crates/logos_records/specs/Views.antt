-- Definitions that contracts cite: those of `Imports`, and those that name types of this crate.
pub use Rattle.logos_records.specs.Imports.{Gains, Puts, object}
pub use Rattle.logos_records.specs.Items.{item_members, kind_members, location_members}

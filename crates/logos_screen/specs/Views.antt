-- Definitions that contracts cite: those of `Imports`, and those that name types of this crate.
pub use Rattle.logos_screen.specs.Imports.{IsCutFront, IsFront}
pub use Rattle.logos_screen.specs.ItemLines.{ShowsItem, item_text, painted, part_sequence}
pub use Rattle.logos_screen.specs.Screens.{IsScreenOf, is_plain}

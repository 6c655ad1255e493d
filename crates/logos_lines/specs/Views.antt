-- Definitions that contracts cite: those of `Imports`, and those that name types of this crate.
pub use Rattle.logos_lines.specs.Imports.{CursorValue}
pub use Rattle.logos_lines.specs.Locations.{after_byte, continues, ends_line, line_length, location_at}
pub use Rattle.logos_lines.specs.Starts.{AreStarts, AreStops, IsLineOf, IsLongLine, IsNoLine, IsStart}
pub use Rattle.logos_lines.specs.inside.Search.{ends_search, next_column}

-- Definitions that contracts cite: those of `Imports`, and those that name types of this crate.
pub use Rattle.logos_attempts.specs.Imports.{CodeFinds, Gains, failed}
pub use Rattle.logos_attempts.specs.Around.{Finds, IsAround, IsAroundText, LeadsTo, around_text, kind_text, location_in, location_text}
pub use Rattle.logos_attempts.specs.Partials.{AddsLine, ArePartialLines, IsPartialLine, IsPartialText, PartialLines, partial_line, read_text, reader_text}

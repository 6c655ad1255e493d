-- Definitions that contracts cite: those of lower crates, and those of this crate that name none of
-- its types.
pub use Rattle.logos_lines.specs.Locations.{location_at}
pub use Rattle.logos_lines.specs.Starts.{IsLineOf, IsLongLine, IsNoLine}
pub use Rattle.logos_token.specs.FaultNames.{name_of}
pub use Rattle.logos_token.specs.FaultView.{fault_of, faults_of}
pub use Rattle.std.specs.List.{count_by}
pub use Rattle.logos_page.specs.Shown.{shown_char, shown_text}
pub use Rattle.logos_report.specs.Codes.{is_ambiguity, is_error, is_explained}
pub use Rattle.logos_report.specs.Reports.{Begins, Continues, Ends, IsInLine, Shows}

-- Definitions that contracts cite: those of lower crates, and those of this crate that name none of
-- its types.
pub use Rattle.std.specs.List.{All}
pub use Rattle.logos_report.specs.Sets.{next_value, sizes_of}
pub use Rattle.logos_token.specs.FaultView.{fault_of, faults_of}

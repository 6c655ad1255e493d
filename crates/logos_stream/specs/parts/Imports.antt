-- Definitions that contracts cite: those of lower crates.
pub use Rattle.logos_stream.specs.parts.PartsValue.{PartsValue, Reads, ReadsAfter, Stays, without}

-- Definitions of lower crates that clauses cite.
pub use Rattle.logos_answers.specs.Counts.{totals_text}
pub use Rattle.logos_host.specs.Failures.{IsNoMisuse}
pub use Rattle.logos_stream.specs.Views.{KeepsCode, TakesMatches, unread_length}
pub use Rattle.std.specs.Io.KnownBytes.{Appends}

-- Definitions that contracts cite: those of lower crates, and those of this crate that name none of
-- its types.
pub use Rattle.logos_answers.specs.Imports.{AllStart, Gains, IsBytes, IsGraphOf, rules_of}
pub use Rattle.logos_host.specs.Failures.{IsNoMisuse, status_of}

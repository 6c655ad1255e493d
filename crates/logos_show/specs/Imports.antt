-- Definitions that contracts cite: those of lower crates, and those of this crate that name none of
-- its types.
pub use Rattle.logos_answers.specs.Imports.{AllStart, IsBytes, IsGraphOf, rules_of}
pub use Rattle.logos_host.specs.Failures.{status_of}
pub use Rattle.logos_show.specs.Orders.{IsNoMisuse, requested}
pub use Rattle.logos_show.specs.Parts.{IsPartAt}

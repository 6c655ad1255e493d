-- Definitions about the arguments of a command line that clauses cite.
pub use Rattle.logos_host.specs.Failures.{IsNoMisuse}
pub use Rattle.logos_questions.specs.Orders.{requested}

-- Definitions that contracts cite: those of lower crates.
pub use Rattle.logos_code.specs.Runs.{Runs}
pub use Rattle.logos_machine.specs.LexerValue.{TakesMatches, answers_of}

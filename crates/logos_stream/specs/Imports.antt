-- Definitions that contracts cite: those of lower crates.
pub use Rattle.logos_machine.specs.LexerValue.{TakesMatches, answers_of, begun, item_of}
pub use Rattle.logos_machine.specs.Streams.{item_later}
pub use Rattle.std.specs.Coded.{codes}
pub use mir.Syntax.{named}

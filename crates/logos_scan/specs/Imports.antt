-- Definitions that contracts cite, and that name no type of this crate.
pub use Rattle.logos_code.specs.Runs.{Runs}
pub use Rattle.logos_hir.specs.Text.{IsBytes}
pub use Rattle.logos_machine.specs.LexerValue.{TakesMatches, answers_of, item_of}
pub use Rattle.logos_scan.specs.Attempts.{SkipsTo, ComesTo}
pub use Rattle.logos_scan.specs.walk.Walk.{IsRowStart}

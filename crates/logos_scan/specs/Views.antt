-- Definitions that contracts cite: those of `Imports`, and those that name types of this crate.
pub use Rattle.logos_scan.specs.Imports.{IsBytes, IsRowStart, Runs, ComesTo, TakesMatches, answers_of, item_of}
pub use Rattle.logos_scan.specs.Items.{EndsItems, YieldsItem}
pub use Rattle.logos_scan.specs.Runs.{IsChunk, IsFlagged, IsHeld, IsLoaded, IsOver, IsReading, IsReady, IsRun, IsTaken, WithChunk, with_chunk}
pub use Rattle.logos_scan.specs.walk.Cursors.{IsMarked, start_of}

-- Definitions that contracts cite: those of `Imports`, and those that name types of this crate.
pub use Rattle.logos_scan.specs.walk.Imports.{HasRoom, HoldTops, IsClosed, IsRowStart, IsSameBeside, MarksFrom, Walked, start_by}
pub use Rattle.logos_scan.specs.walk.Blocks.{AreRowStarts, AreWalked}
pub use Rattle.logos_scan.specs.walk.Cursors.{Finds, Finishes, IsInWord, IsMarked, IsMarkedBeside, Passes, IsAt, start_at, start_of}
pub use Rattle.logos_scan.specs.walk.Repairs.{HoldsStretch, IsRepaired}

-- Definitions that contracts cite: those of lower crates.
pub use Rattle.logos_scan.specs.walk.Cursor.{HasRoom, IsLastEnd, IsLeft, IsNext, IsUnder, NoEnd, NoToken, StartsAt, end_bit, start_by, token_bit}
pub use Rattle.logos_scan.specs.walk.Masks.{HoldTops, Marks, MarksFrom}
pub use Rattle.logos_scan.specs.walk.Walk.{IsClosed, IsRowStart, IsSameBeside, Walked, entry_at, row_start_of}

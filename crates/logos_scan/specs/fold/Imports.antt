-- Definitions that contracts cite, and that name no type of this crate.
pub use Rattle.logos_code.specs.CodeView.{state_at}
pub use Rattle.logos_code.specs.Headline.{IsSound}
pub use Rattle.logos_code.specs.Rows.{IsStepOf, LeadsToRowStart, Describes, first_halting}
pub use Rattle.logos_code.specs.Runs.{stays}
pub use Rattle.logos_scan.specs.fold.Folds.{AreFolded, FoldedValue, Goes, IsEnded, IsFew, IsFolded, IsFoldedRow, IsMany, IsWithin, flags_of}
pub use Rattle.logos_scan.specs.walk.Walk.{row_start_of}
pub use Rattle.std.specs.Coded.{codes}
pub use mir.Syntax.{named}

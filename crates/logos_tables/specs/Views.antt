-- Definitions that contracts cite, and that name types of this crate.
pub use Rattle.logos_tables.specs.RowsView.{rows_of}
pub use Rattle.logos_tables.specs.Shapes.{IsShown, config_of, shape_runs}
pub use Rattle.logos_text.specs.FrontRuns.{front_runs}
pub use Rattle.logos_text.specs.Pieces.{ArePrinted}
pub use Rattle.logos_codegen.specs.Fronts.{around_made}
pub use Rattle.logos_tables.specs.Texts.{HoldsTables, marks_text, skips_text, step_texts}
pub use Rattle.logos_tables.specs.inside.Adding.{Appends, AppendsMade, AppendsNumbers, AppendsTables}

-- Definitions that contracts cite: those of lower crates, and those of this crate that name none of
-- its types.
pub use Rattle.logos_graph.specs.GraphView.{leaf_number, state_type_of}
pub use Rattle.logos_lines.specs.Locations.{location_at}
pub use Rattle.logos_token.specs.Held.{held}
pub use Rattle.logos_inspect.specs.Marks.{AreMarks, IsSet, Marks}
pub use Rattle.logos_inspect.specs.inside.Steps.{AddsMark}

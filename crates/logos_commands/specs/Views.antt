-- Definitions that contracts cite: those of `Imports`, and those that name types of this crate.
pub use Rattle.logos_commands.specs.Imports.{Action, Appends, AppendsFront, Failure, IsNoMisuse, IsOutputFailure, Keeps, OccurInOrder, TakesMatches, WritesLines, answers_of, emits, fault_of, faults_of, flat_map, ident_slice, item_of, line_of, mermaid_of, status_of, texts_of, with_separator}
pub use Rattle.logos_codegen.specs.Fronts.{around_made}
pub use Rattle.logos_tables.specs.Shapes.{IsCodeText}
pub use Rattle.logos_commands.specs.Diagrams.{destination, export_destination, extension, file_at, file_in, refusal_by}
pub use Rattle.logos_commands.specs.Commands.{requested, command_requested}
pub use Rattle.logos_commands.specs.Refusals.{IsRefusalOf, IsUnexportedBy, export_line, fault_head, fault_line, fault_lines, line_character, on_one_line}
pub use Rattle.logos_commands.specs.Runs.{Carries, HasEffect, IsDenied, IsDone, IsLeft, IsPart, IsLookedAt, IsPartOf, IsTornBy, IsTouched, PrintsItems, PrintsItemsOf, ReadsSource, RefusesExport, RefusesInput, RefusesItems, RefusesLexer, RefusesStripping, Touches, WritesFor, prints, shape_of}
pub use Rattle.logos_commands.specs.inside.Destinations.{EndsWithLine, FailsAt, effect_of}

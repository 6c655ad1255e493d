-- Definitions that contracts cite: those of lower crates, and those of this crate that name none of
-- its types.
pub use Rattle.logos_code.specs.declared.action.Action.{Action}
pub use Rattle.logos_enum.specs.Values.{ident_slice}
pub use Rattle.logos_graph.specs.Mermaid.{mermaid_of}
pub use Rattle.logos_host.specs.Failures.{IsNoMisuse, IsOutputFailure, status_of}
pub use Rattle.logos_host.specs.Writers.{AppendsFront}
pub use Rattle.logos_host.specs.declared.failure.Failure.{Failure}
pub use Rattle.logos_machine.specs.LexerValue.{TakesMatches, answers_of, item_of}
pub use Rattle.logos_text.specs.Occurrence.{OccurInOrder}
pub use Rattle.logos_text.specs.Texts.{texts_of}
pub use Rattle.logos_token.specs.FaultView.{fault_of, faults_of}
pub use Rattle.std.specs.Io.KnownBytes.{Appends, Keeps}
pub use Rattle.std.specs.List.{flat_map}
pub use Rattle.std.specs.Path.{with_separator}
pub use Rattle.logos_commands.specs.Lines.{WritesLines, emits, line_of, span_line}

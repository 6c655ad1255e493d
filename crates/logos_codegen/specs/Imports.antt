-- Definitions that contracts cite: those of lower crates, and those of this crate that name none of
-- its types.
pub use Rattle.logos_attribute.specs.CallbackViews.{callback_view}
pub use Rattle.logos_automaton.specs.Errors.{fault_of, numbers}
pub use Rattle.logos_automaton.specs.Munch.{IsInput, Rule}
pub use Rattle.logos_code.specs.Code.{CodeValue}
pub use Rattle.logos_code.specs.Headline.{IsCut, IsLexer}
pub use Rattle.logos_code.specs.Items.{Item, Items}
pub use Rattle.logos_code.specs.Order.{AreInOrder, IsLeftOut, Parts}
pub use Rattle.logos_code.specs.Runs.{Runs}
pub use Rattle.logos_definition.specs.ErrorTypeViews.{error_view, run_in}
pub use Rattle.logos_definition.specs.ParserViews.{parser_view}
pub use Rattle.logos_enum.specs.Values.{ident_slice}
pub use Rattle.logos_generator.specs.GeneratorValue.{KeepsGiven}
pub use Rattle.logos_graph.specs.GraphOf.{IsGraphOf}
pub use Rattle.logos_graph.specs.View.{rules_of}
pub use Rattle.logos_definition.specs.Options.{utf8_mode}
pub use Rattle.logos_machine.specs.LexerValue.{TakesMatches, TakesMatchesOf, answers_of, item_of}
pub use Rattle.logos_parser.specs.AnalysisViews.{analysis_view}
pub use Rattle.logos_parser.specs.Endings.{too_long}
pub use Rattle.logos_parser.specs.Refusals.{IsMemory, Refuses}
pub use Rattle.logos_pattern.specs.Leaf.{kind_value}
pub use Rattle.logos_text.specs.Arounds.{around_value}
pub use Rattle.logos_text.specs.FrontRuns.{front_runs, text_runs}
pub use Rattle.logos_text.specs.Occurrence.{OccurInOrder}
pub use Rattle.logos_text.specs.Pieces.{ArePrinted}
pub use Rattle.logos_text.specs.Texts.{texts_of}
pub use Rattle.logos_token.specs.Views.{stream_tokens, tokens_of}
pub use Rattle.logos_type.specs.TypeTrees.{type_tree}
pub use Rattle.std.specs.Coded.{codes}
pub use Rattle.std.specs.List.{All}
pub use Rattle.std.specs.Option.{option_map_or}
pub use Rattle.std.specs.Str.{IsUtf8}
pub use mir.Syntax.{named}
pub use Rattle.logos_codegen.specs.Around.{IsAroundOf, around_given, error_run, error_tree, input_text}
pub use Rattle.logos_codegen.specs.Given.{IsGiven, KeepsEnum, error_callback, variant_at}
pub use Rattle.logos_codegen.specs.RunLaws.{RunsAreCut}
pub use Rattle.logos_codegen.specs.Source.{IsAccepted, IsRefused, IsWithinLimits, IsWithinSizes}
pub use Rattle.logos_codegen.specs.Texts.{disambiguation_fault, disambiguation_faults, disambiguation_text, empty_match_faults, fault_at, first_of, line_of, named_leaf, other_lines, reported_as}
pub use Rattle.logos_codegen.specs.inside.Steps.{AreGraphFaults, IsFaultless, IsGraphMade, IsLimit, ReportsGraph}

-- Definitions that contracts cite: those of lower crates, and those of this crate that name none of
-- its types.
pub use Rattle.logos_attribute.specs.CallbackViews.{callback_view}
pub use Rattle.logos_attribute.specs.Flags.{flags_report}
pub use Rattle.logos_attribute.specs.LiteralViews.{literal_view}
pub use Rattle.logos_attribute.specs.Literals.{string_in, text_report}
pub use Rattle.logos_attribute.specs.Nested.{piece_of, pieces_left, value_of}
pub use Rattle.logos_attribute.specs.Pieces.{grouped, named, pieces}
pub use Rattle.logos_attribute.specs.Reports.{AddsFault, IsReport, and_then, fault, map_report}
pub use Rattle.logos_attribute.specs.Slices.{ident_slice, literal_slice}
pub use Rattle.logos_enum.specs.AttributeValues.{attribute_value}
pub use Rattle.logos_token.specs.Tokens.{run_span}
pub use Rattle.logos_token.specs.Views.{stream_tokens, tokens_of}
pub use Rattle.logos_type.specs.TypeTrees.{type_tree}
pub use Rattle.logos_type_params.specs.Generics.{generics, generics_of, missing_types}
pub use Rattle.logos_definition.specs.Arguments.{ErrorGroup, ReadsError, ReadsPiece, ReadsPieces, ReadsType}
pub use Rattle.logos_definition.specs.Definitions.{argument_report, arguments_report, callback_form, definition_report, greedy_form, greedy_report, greedy_set, greedy_twice, greedy_value, ignore_form, ignore_report, named_callback, named_expected, named_report, plain, priority_form, priority_report, priority_set, priority_twice, priority_value, unexpected_token, unknown_nested, unnamed_callback}
pub use Rattle.logos_definition.specs.ErrorTypes.{error_alone, error_argument_report, error_arguments_report, error_named_report, error_read, error_span, error_text, no_error, unknown_error_argument}
pub use Rattle.logos_definition.specs.OptionFaults.{crate_form, error_empty, error_form, error_twice, export_bytes, export_form, export_twice, extras_form, extras_twice, invalid_nested, once_only, skip_form, skip_group, source_old, subpattern_form, type_form, unknown_logos, utf8_form, utf8_twice, utf8_value}
pub use Rattle.logos_definition.specs.Options.{crate_report, error_report, error_set, export_report, extras_report, extras_set, held_path, mode_set, no_options, option_report, path_set, setting_report, skip_plain, skip_report, skip_whole, subpattern_report, subpattern_set, utf8_mode, utf8_report}
pub use Rattle.logos_definition.specs.ParserTypes.{GetsUnheld}

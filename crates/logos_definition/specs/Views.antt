-- Definitions that contracts cite: those of `Imports`, and those that name types of this crate.
pub use Rattle.logos_definition.specs.Imports.{AddsFault, ErrorGroup, GetsUnheld, IsReport, ReadsError, ReadsPiece, ReadsPieces, ReadsType, and_then, argument_report, arguments_report, attribute_value, crate_report, definition_report, error_alone, error_argument_report, error_arguments_report, error_empty, error_named_report, error_read, error_report, error_set, error_span, error_text, export_report, extras_report, extras_set, fault, flags_report, generics, generics_of, greedy_report, greedy_set, grouped, held_path, ident_slice, ignore_report, literal_slice, literal_view, map_report, missing_types, mode_set, named, named_report, no_error, no_options, option_report, path_set, piece_of, pieces, pieces_left, plain, priority_report, priority_set, run_span, setting_report, skip_plain, skip_report, skip_whole, stream_tokens, string_in, subpattern_report, subpattern_set, text_report, tokens_of, type_tree, unknown_error_argument, utf8_mode, utf8_report, value_of}
pub use Rattle.logos_definition.specs.Attributes.{ReadsAttribute, ReadsMeta, const_generic, logos_form, meta_report, parameter_report}
pub use Rattle.logos_definition.specs.DefinitionViews.{definition_view}
pub use Rattle.logos_definition.specs.ErrorTypeViews.{error_view}
pub use Rattle.logos_definition.specs.Metas.{after_name, meta_of, meta_view}
pub use Rattle.logos_definition.specs.ParserViews.{HasNotFailed, parser_view}

-- Definitions that contracts cite: those of lower crates, and those of this crate that name none of
-- its types.
pub use Rattle.logos_token.specs.Faults.{Fault}
pub use Rattle.logos_token.specs.Printing.{printed}
pub use Rattle.logos_token.specs.Tokens.{Token, TokenList, also, append, none, rest_of, run_span}
pub use Rattle.logos_token.specs.Views.{tokens_of, tree_of}
pub use Rattle.logos_type.specs.TypeTrees.{type_tree}
pub use Rattle.logos_type_params.specs.TypeParams.{ReadsValue}
pub use Rattle.std.specs.Iterator.{item_count}
pub use Rattle.std.specs.Result.{result_ok}
pub use Rattle.std.specs.Str.{all_ascii_digits}
pub use Rattle.logos_attribute.specs.CallbackViews.{callback_view}
pub use Rattle.logos_attribute.specs.Callbacks.{bar_in, body_in, callback_body, callback_closure, callback_in, callback_no_value, callback_report, callback_set, parameter_in, twice_at, view_span}
pub use Rattle.logos_attribute.specs.Flags.{flags_report, ignore_ascii, ignore_empty, ignore_token, other_flag}
pub use Rattle.logos_attribute.specs.LiteralViews.{literal_view}
pub use Rattle.logos_attribute.specs.Literals.{literal_report, literal_syntax, not_text, string_in, text_in, text_report}
pub use Rattle.logos_attribute.specs.Pieces.{after_comma, after_group, after_keyword, after_name, assigned, beside, keyed, name_token, named, pieces, rest_after_group, rest_after_name, rest_after_piece, through_comma, unexpected, unnamed, up_to_comma, without_comma}
pub use Rattle.logos_attribute.specs.Reports.{AddsFault, IsReport, fault, fault_about}
pub use Rattle.logos_attribute.specs.Slices.{Slice, ident_slice, literal_slice}
pub use Rattle.logos_attribute.specs.Values.{boolean_in, boolean_named, decimal, number_in}
pub use Rattle.logos_attribute.specs.inside.Cutting.{after_mark, first_run}
pub use Rattle.logos_attribute.specs.inside.FlagSteps.{Continues, HasCase}

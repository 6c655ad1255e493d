-- Definitions that contracts cite: those of `Imports`, and those that name types of this crate.
pub use Rattle.logos_attribute.specs.Imports.{AddsFault, Continues, HasCase, IsReport, Slice, Token, TokenList, after_comma, after_group, after_keyword, after_mark, after_name, also, append, assigned, bar_in, beside, body_in, callback_body, callback_closure, callback_in, callback_no_value, callback_report, callback_set, callback_view, first_run, flags_report, ident_slice, ignore_ascii, ignore_empty, ignore_token, item_count, keyed, literal_slice, name_token, named, none, other_flag, parameter_in, pieces, printed, rest_after_group, rest_after_name, rest_after_piece, rest_of, run_span, through_comma, tokens_of, tree_of, twice_at, unexpected, unnamed, up_to_comma, view_span, without_comma}
pub use Rattle.logos_attribute.specs.Nested.{Cuts, YieldsNext, IsSplit, piece_of, pieces_left, rest_after}
pub use Rattle.logos_attribute.specs.inside.CallbackRuns.{callback_fault, read_view, run_view}

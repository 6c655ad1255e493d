-- Definitions that contracts cite, and that name types of this crate.
pub use Rattle.logos_pattern_tokens.specs.Escapes.{begins, boundary_at, braces_at, byte_at, escape_at, fixed_at, hex_at, is_escapable, is_form, plain_property, property_at, property_of, single_at, single_of}
pub use Rattle.logos_pattern_tokens.specs.Flags.{no_change, set_once, with_letter}
pub use Rattle.logos_pattern_tokens.specs.Openings.{are_name_parts, dash, group_at, is_name, is_name_part, is_name_start, letters_from, name_at, next_letter, no_letters, option_at, python_at, setting_end}
pub use Rattle.logos_pattern_tokens.specs.Reader.{escape_token_at, token_at}
pub use Rattle.logos_pattern_tokens.specs.Token.{Yields, bounds_at, count_at, count_end, cut_at, fits, hex_digit, hex_from, is_among, is_digit, lazy_at, most_at, number_at, number_from, opens, order_at, plain, scalar_of, sets, token_view}
pub use Rattle.logos_pattern_tokens.specs.bracket.Reader.{bracket_token_at, class_at, class_end, colon_at, dashes_from, escape_item, inner_at, item_at, last_at, lead_at, lone_at, name_end, open_at, operator_of, range_at, range_token, symbol_of}
pub use Rattle.logos_pattern_tokens.specs.bracket.Spelling.{begins_operator, begins_range, code_of}

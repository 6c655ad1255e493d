-- Definitions that contracts cite: those of `Imports`, and those that name types of this crate.
pub use Rattle.logos_pattern.specs.Imports.{IsFound, IsSpelled, IsTooDeep, IsValue, Refuses, chars, escaped_byte, escaped_bytes, escaped_character, first_flags, fitted, flat_map, has_greedy_dot, is_metacharacter, is_text, literal_tree, tree_of, upper_digit, value}
pub use Rattle.logos_pattern.specs.Leaf.{callback_span, callback_value, inline_value, is_token, kind_text, kind_value, leaf_text, pattern_text, pattern_tree, source_of, variant_name}
pub use Rattle.logos_pattern.specs.Literals.{escaped, held_bytes, held_value, is_unicode, literal_value, token_of}

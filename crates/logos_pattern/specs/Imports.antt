-- Definitions that contracts cite: those of lower crates, and those of this crate that name none of
-- its types.
pub use Rattle.logos_hir.specs.Hir.{literal_tree, tree_of}
pub use Rattle.logos_hir.specs.Measure.{fitted, has_greedy_dot, is_text}
pub use Rattle.logos_hir.specs.Priority.{value}
pub use Rattle.logos_syntax.specs.Grammar.{IsFound, IsSpelled, Refuses, first_flags}
pub use Rattle.logos_syntax.specs.Nesting.{IsTooDeep}
pub use Rattle.logos_token.specs.LiteralValues.{IsValue}
pub use Rattle.std.specs.List.{flat_map}
pub use Rattle.std.specs.Str.{chars}
pub use Rattle.logos_pattern.specs.Escaping.{escaped_byte, escaped_bytes, escaped_character, is_metacharacter, upper_digit}

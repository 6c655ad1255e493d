-- Definitions that contracts cite: those of lower crates, and those of this crate that name none of
-- its types.
pub use Rattle.logos_enum.specs.EnumValues.{EnumValue}
pub use Rattle.logos_enum.specs.Marks.{is_none}
pub use Rattle.logos_parser.specs.Endings.{EndsReading, EndsTokens, too_long}
pub use Rattle.logos_parser.specs.Refusals.{IsMemory, Refuses}
pub use Rattle.logos_token.specs.Faults.{Fault}
pub use Rattle.logos_token.specs.Limits.{source_limit}
pub use Rattle.logos_token.specs.PrintedAgain.{SpellsAgain, bare}
pub use Rattle.logos_token.specs.Printing.{printed}
pub use Rattle.logos_token.specs.Spelling.{Spells}
pub use Rattle.logos_token.specs.Tokens.{Token, TokenList}
pub use Rattle.logos_token.specs.Views.{stream_tokens, tokens_of, tree_of}
pub use Rattle.logos_strip.specs.Helpers.{begins_helper, ends_entry, holds_helper, is_comma, is_global_path, is_helper_name, is_helper_path, is_macro_entry, is_macro_name, is_macro_path, is_macro_segment}

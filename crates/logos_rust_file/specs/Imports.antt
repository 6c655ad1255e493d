-- Definitions that contracts cite: those of lower crates, and those of this crate that name none of
-- its types.
pub use Rattle.logos_enum.specs.Enum.{Reads}
pub use Rattle.logos_enum.specs.EnumValues.{EnumValue}
pub use Rattle.logos_parser.specs.Endings.{EndsReading}
pub use Rattle.logos_parser.specs.Refusals.{Refuses}
pub use Rattle.logos_strip.specs.Entries.{loses_derive}
pub use Rattle.logos_token.specs.Faults.{Fault}
pub use Rattle.logos_token.specs.Spelling.{Spells}
pub use Rattle.logos_token.specs.Tokens.{Token, TokenList, also, count_of}
pub use Rattle.logos_token.specs.Views.{stream_tokens, tokens_of, tree_of}
pub use Rattle.logos_rust_file.specs.Derives.{begins_list, derives, derives_after, derives_in, lists_macro}

-- Definitions that contracts cite: those of lower crates, and those of this crate that name none of
-- its types.
pub use Rattle.logos_attribute.specs.Reports.{AddsFault, fault, only}
pub use Rattle.logos_definition.specs.Options.{no_options, utf8_mode}
pub use Rattle.logos_definition.specs.ParserViews.{parser_view}
pub use Rattle.logos_enum.specs.EnumValues.{enum_value}
pub use Rattle.logos_leaf.specs.LeafViews.{leaf_view}
pub use Rattle.logos_token.specs.Faults.{Fault}
pub use Rattle.logos_token.specs.Limits.{source_limit}
pub use Rattle.logos_token.specs.Refusals.{IsRefusal}
pub use Rattle.logos_token.specs.Tokens.{run_span}
pub use Rattle.logos_token.specs.Views.{stream_tokens, tokens_of}
pub use Rattle.logos_type.specs.Parts.{tree_of}
pub use Rattle.logos_type.specs.TypeTrees.{type_tree}
pub use Rattle.logos_type_params.specs.Generics.{generics, generics_of}
pub use Rattle.logos_parser.specs.Analyses.{HasItsType, IsAnalysis, IsEnumAnalysis, IsTokenAnalysis, ReadsEnum, type_faults}
pub use Rattle.logos_parser.specs.Endings.{EndsReading, EndsTokens, IsMisread, IsShallow, lexical_fault, lexical_text, too_long}
pub use Rattle.logos_parser.specs.EnumTypes.{argument, arguments, bracketed, enum_type, lifetime_argument}
pub use Rattle.logos_parser.specs.Utf8Faults.{leaf_faults, utf8_fault, utf8_faults, utf8_text}

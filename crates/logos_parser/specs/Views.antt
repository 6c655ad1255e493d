-- Definitions that contracts cite: those of `Imports`, and those that name types of this crate.
pub use Rattle.logos_parser.specs.Imports.{EndsReading, EndsTokens, Fault, HasItsType, IsAnalysis, IsEnumAnalysis, IsMisread, IsRefusal, IsShallow, IsTokenAnalysis, ReadsEnum, enum_value, fault, generics, generics_of, leaf_view, lexical_fault, lexical_text, no_options, only, parser_view, run_span, source_limit, stream_tokens, tokens_of, too_long, type_faults, type_tree, utf8_faults, utf8_mode}
pub use Rattle.logos_parser.specs.AnalysisViews.{analysis_view}
pub use Rattle.logos_parser.specs.Refusals.{Refuses}
pub use Rattle.logos_parser.specs.declared.refusal.Refusal.TheVariants.{Memory}

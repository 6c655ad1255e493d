-- Definitions that contracts cite: those of `Imports`, and those that name types of this crate.
pub use Rattle.logos_codegen.specs.Imports.{All, AreGraphFaults, AreInOrder, ArePrinted, CodeValue, IsAroundOf, IsAccepted, IsCut, IsFaultless, IsGiven, IsGraphMade, IsGraphOf, IsLeftOut, IsLexer, IsLimit, IsMemory, IsRefused, IsUtf8, IsWithinLimits, IsWithinSizes, Items, KeepsEnum, KeepsGiven, Parts, Refuses, ReportsGraph, Rule, Runs, RunsAreCut, OccurInOrder, TakesMatches, TakesMatchesOf, analysis_view, answers_of, around_given, around_value, callback_view, error_run, error_tree, codes, error_callback, error_view, fault_of, front_runs, ident_slice, input_text, item_of, kind_value, named, named_leaf, parser_view, reported_as, rules_of, run_in, stream_tokens, text_runs, texts_of, tokens_of, too_long, type_tree, utf8_mode, variant_at}
pub use Rattle.logos_codegen.specs.Fronts.{BeginsImplementation, IsFrontOf, around_made, around_options}
pub use Rattle.logos_codegen.specs.Language.{IsLanguage, LanguageValue}
pub use Rattle.logos_codegen.specs.Refusals.{IsJust, IsNoRefusal, IsThatRefusal, IsUnlexed}
pub use Rattle.logos_codegen.specs.Tokenizing.{Answers, IsErrorAt, IsOutcome, IsRefusalOf, IsThatError, IsToken, Tokenizes, kind_at, kind_given, kind_named}
pub use Rattle.logos_codegen.specs.inside.Heads.{HeadHasItsType, IsHeadOf}
pub use Rattle.logos_codegen.specs.declared.lexing.LexSourceError.TheVariants.{Memory, NotUtf8}

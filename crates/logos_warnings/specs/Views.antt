-- Definitions that contracts cite: those of `Imports`, and those that name types of this crate.
pub use Rattle.logos_warnings.specs.Imports.{IsRefusal, Spells, attribute_value, enum_value, tokens_of, variant_value}
pub use Rattle.logos_warnings.specs.Helpers.{Intends, IsNearest, helper_name, is_helper_name}
pub use Rattle.logos_warnings.specs.Mistakes.{AreMistakes, AreOfLexer, AttributeAdds, ForgetsDerive, HasHelper, HasHelpers, IsHelper, LacksPatterns, NamesAdd, RunAdds, VariantAdds, VariantsAdd, VariantsHave, begins_with_colon, begins_with_helper, is_conditional, is_helper_path, is_helper_segment, is_qualified, is_useless, mistake_value, name_in, name_of, span_of}
pub use Rattle.logos_warnings.specs.Shown.{AddsAbout, AddsEach, AreAbout, AreOfEnum, AreOfText, AreOfTokens, IsAbout, IsAboutIgnored, IsAt, IsIgnored, IsIgnoredIn, IsIgnoredOn, IsPassedOver, is_warning, mistake_text}

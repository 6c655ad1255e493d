-- Definitions that contracts cite.
pub use Rattle.logos_enum.specs.AttributeValues.{attribute_value}
pub use Rattle.logos_layout.specs.Conditions.{attribute_condition, attribute_text, condition_text, conditions_text, text_if}
pub use Rattle.logos_layout.specs.Inner.{FollowsInner, IsInnerText, IsPlainly, IsWithoutInner, after_brackets, after_inner, after_mark, is_inner}
pub use Rattle.logos_layout.specs.Layout.{ArePrinted, EndsWithBraces, IsClosed, IsLaidOut, IsWrittenAs, SpellsSame, braces_end}
pub use Rattle.logos_token.specs.First.{after_word}
pub use Rattle.logos_token.specs.Spelling.{Spells}
pub use Rattle.logos_token.specs.Tokens.{count_of, none}
pub use Rattle.logos_token.specs.Views.{tokens_of, tree_of}

-- Definitions that contracts cite: those of lower crates.
pub use Rattle.logos_enum.specs.AttributeValues.{attribute_value}
pub use Rattle.logos_enum.specs.EnumValues.{enum_value, variant_value}
pub use Rattle.logos_token.specs.Refusals.{IsRefusal}
pub use Rattle.logos_token.specs.Spelling.{Spells}
pub use Rattle.logos_token.specs.Views.{tokens_of}

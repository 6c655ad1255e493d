-- Definitions that contracts cite.
pub use Rattle.logos_token.specs.Faults.{Fault}
pub use Rattle.logos_token.specs.Tokens.{TokenList}
pub use Rattle.logos_token.specs.Spelling.{Spells}
pub use Rattle.logos_enum.specs.Enum.{Reads}
pub use Rattle.logos_enum.specs.EnumValues.{EnumValue}
pub use Rattle.logos_definition.specs.Options.{OptionsView}
pub use Rattle.logos_leaf.specs.Leaves.{LeafView}
pub use Rattle.logos_leaf.specs.Sources.{IsSourceRead}
pub use Rattle.logos_laws.specs.spans.LeafSpans.{HasSpansOf, OccursIn}

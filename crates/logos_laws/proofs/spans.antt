pub mod RuleParts
pub mod TokenParts
pub mod GenericParts
pub mod HeadParts
pub mod EnumParts
pub mod PieceParts
pub mod DefinitionParts
pub mod LeafParts

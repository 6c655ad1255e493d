pub mod RuleLemmas
pub mod GenericLemmas
pub mod Once
pub mod FieldLemmas
pub mod TypeLaws
pub mod EnumOnce
pub mod ExtentLemmas

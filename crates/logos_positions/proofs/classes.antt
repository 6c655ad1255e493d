pub mod BuildLemmas
pub mod CharacterLemmas
pub mod ClassLemmas
pub mod RangeLemmas
pub mod ReaderLemmas
pub mod TableLemmas
pub mod TextLemmas

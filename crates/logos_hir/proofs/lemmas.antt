pub mod RangeLemmas
pub mod SameMembers
pub mod SetLemmas
pub mod FoldLemmas
pub mod PropertyLemmas
pub mod OperandLemmas

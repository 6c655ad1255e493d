pub mod OneFaults
pub mod PassableLemmas
pub mod SameMembers
pub mod SetOrder
pub mod TopLemmas

pub mod ListLemmas
pub mod SlotLemmas
pub mod MarkLemmas
pub mod TraversalLemmas
pub mod WalkLemmas

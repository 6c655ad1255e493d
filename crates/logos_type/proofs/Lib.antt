pub mod PartTrees
pub mod PartLemmas
pub mod DepthLemmas
pub mod EqualityLemmas

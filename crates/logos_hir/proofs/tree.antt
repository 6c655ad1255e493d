pub mod Bounds
pub mod Order
pub mod Laws
pub mod PassableRows
pub mod TreeViews
pub mod BuildLemmas
pub mod SimplifyLemmas
pub mod BranchLemmas

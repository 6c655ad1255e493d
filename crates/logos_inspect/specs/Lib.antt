pub mod Costs
pub mod Leaves
pub mod Marks
pub mod inside
pub mod Imports
pub mod Views

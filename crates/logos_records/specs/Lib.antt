pub mod Comparing
pub mod Examples
pub mod Inputs
pub mod Items
pub mod Leaves
pub mod Matches
pub mod Imports
pub mod Views

pub mod Candidates
pub mod Choices
pub mod Orders
pub mod Parts
pub mod Runs
pub mod Imports
pub mod Views

pub mod Orders
pub mod Runs
pub mod inside
pub mod Imports
pub mod Views

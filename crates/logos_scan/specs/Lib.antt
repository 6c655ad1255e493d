pub mod walk
pub mod fold
pub mod Attempts
pub mod Runs
pub mod Items
pub mod Imports
pub mod Views

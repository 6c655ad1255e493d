pub mod Around
pub mod Partials
pub mod Imports
pub mod Views

pub mod Labels
pub mod Imports

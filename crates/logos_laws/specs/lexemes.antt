pub mod Openings
pub mod Imports

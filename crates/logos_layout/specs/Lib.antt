pub mod Conditions
pub mod Inner
pub mod Layout
pub mod Imports

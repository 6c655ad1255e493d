pub mod Cycles
pub mod inside
pub mod Imports
pub mod Views

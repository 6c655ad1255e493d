pub mod Diagrams
pub mod Commands
pub mod Lines
pub mod Refusals
pub mod Runs
pub mod inside
pub mod Imports
pub mod Views

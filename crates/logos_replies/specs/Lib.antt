pub mod Answers
pub mod Verdicts
pub mod Imports
pub mod Views

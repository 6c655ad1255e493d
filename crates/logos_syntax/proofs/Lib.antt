pub mod brackets
pub mod patterns

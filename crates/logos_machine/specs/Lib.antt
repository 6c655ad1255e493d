pub mod LexerValue
pub mod Loops
pub mod Streams
pub mod Within
pub mod inside
pub mod Imports
pub mod Views

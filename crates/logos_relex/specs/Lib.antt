pub mod Chunks
pub mod Lexed
pub mod inside
pub mod Imports
pub mod Views

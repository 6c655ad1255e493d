pub mod Bytes
pub mod ClassText
pub mod Imports
pub mod Views

pub mod Shown
pub mod Tokens
pub mod Growing
pub mod Messages
pub mod Warnings
pub mod Imports

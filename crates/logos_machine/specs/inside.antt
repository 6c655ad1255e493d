pub mod Attempts
pub mod Looks
pub mod Parts
pub mod IsAt

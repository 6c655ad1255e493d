pub mod Errors
pub mod Parts
pub mod Slots
pub mod Tests

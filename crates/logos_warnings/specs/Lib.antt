pub mod Helpers
pub mod Mistakes
pub mod Shown
pub mod Imports
pub mod Views

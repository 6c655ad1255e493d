pub mod Pages
pub mod Shown
pub mod Imports
pub mod Views

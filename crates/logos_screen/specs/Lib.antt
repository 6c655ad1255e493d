pub mod Screens
pub mod Fronts
pub mod ItemLines
pub mod Imports
pub mod Views

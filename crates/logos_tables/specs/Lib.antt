pub mod Steps
pub mod Layout
pub mod RowsView
pub mod Texts
pub mod Shapes
pub mod inside
pub mod Imports
pub mod Views

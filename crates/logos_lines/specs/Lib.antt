pub mod Locations
pub mod Cursors
pub mod Starts
pub mod inside
pub mod Imports
pub mod Views

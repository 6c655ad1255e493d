pub mod Orders
pub mod Imports

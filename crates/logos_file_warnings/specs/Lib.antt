pub mod Added
pub mod Warned
pub mod Imports
